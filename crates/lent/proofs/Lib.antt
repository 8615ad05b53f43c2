-- The laws of the lent forms.
pub mod Refusing
