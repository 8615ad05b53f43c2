-- A number's digits: the last one first, how many, and that they are those that std writes. Assumes nothing.
use Rattle.std.proofs.Common.{◌≡◌, refl, sym, ◌∙◌, ap, Bool, true, false, List, [], ◌∷◌, append-nil, ℕ, zero, suc, ◌+◌, ◌*◌, ◌/◌, ◌%◌, ◌^◌, ◌<◌, ◌≤◌, div-lt_iff_lt-mul, pow-suc, arith, length}
use Rattle.std.proofs.Common.{ltb, lt-ltb, le-ltb, ltb-false, ◌-◌, drop, set, replicate, drop-cons, get_or-set_same, drop-set-lt, lt-length-set}
use Rattle.std.specs.Fmt
use Rattle.std.proofs.lemmas.Fmt.{PrependsLastDigit, decimal_from_prepends, length-decimal-le}
use Rattle.model.specs.Print.{digits, decimal}

-- one digit more, or the first one
turn : ℕ → ℕ → List ℕ → Bool → List ℕ
turn k n done t = elim t [ true ↦ (48 + n) ∷ done | false ↦ digits k (n / 10) ((48 + n % 10) ∷ done) ]

digits-next : (at n : ℕ) (done : List ℕ) → 0 < at → 10 ≤ n → digits (at - 1) (n / 10) ((48 + n % 10) ∷ done) ≡ digits at n done
unfolding digits turn
digits-next zero n done h k = absurd (omega arith)
digits-next (suc a) n done h k =
    let e : suc a - 1 ≡ a = omega arith in
    ap (λ m. digits m (n / 10) ((48 + n % 10) ∷ done)) e ∙ sym (ap (turn a n done) (le-ltb n 10 k))

digits_last : (at n : ℕ) (done : List ℕ) → 0 < at → n < 10 → (48 + n) ∷ done ≡ digits at n done
unfolding digits turn
digits_last zero n done h k = absurd (omega arith)
digits_last (suc a) n done h k = sym (ap (turn a n done) (lt-ltb n 10 k))

-- there is a place for each digit
pub digits-room : (at n : ℕ) → 0 < at → 10 ≤ n → n < 10 ^ at → (n / 10 < 10 ^ (at - 1)) × (0 < at - 1)
digits-room zero n h k l = absurd (omega arith)
digits-room (suc zero) n h k l = absurd (omega arith)
digits-room (suc (suc a)) n h k l =
    let e : suc (suc a) - 1 ≡ suc a = omega arith in
    let p : 10 ^ suc (suc a) ≡ 10 ^ suc a * 10 = pow-suc 10 (suc a) in
    rw e ((div-lt_iff_lt-mul {k = 10} (omega arith)).1 (omega arith), omega arith)

turn_length : (k n : ℕ) (done : List ℕ) → ((m : ℕ) (d : List ℕ) → length (digits k m d) ≤ k + length d) → (t : Bool) →
    length (turn k n done t) ≤ suc k + length done
unfolding turn
turn_length k n done h true = omega arith
turn_length k n done h false = omega (arith, h (n / 10) ((48 + n % 10) ∷ done))

digits-length : (k n : ℕ) (done : List ℕ) → length (digits k n done) ≤ k + length done
unfolding digits turn
digits-length zero n done = omega arith
digits-length (suc k) n done = turn_length k n done (digits-length k) (ltb n 10)

pub decimal-length : (n : ℕ) → length (decimal n) ≤ 20
unfolding decimal
decimal-length n = digits-length 20 n []

-- a number below 10 ^ (k + 1) has no more than k + 1 digits
short_turn : (f k n : ℕ) (done : List ℕ) → ((j m : ℕ) (d : List ℕ) → m < 10 ^ suc j → length (digits f m d) ≤ suc j + length d) → n < 10 ^ suc k →
    (t : Bool) → ltb n 10 ≡ t → length (turn f n done t) ≤ suc k + length done
unfolding turn
short_turn f k n done later h true e = omega arith
short_turn f zero n done later h false e = absurd (omega (arith, ltb-false n 10 e))
short_turn f (suc k) n done later h false e =
    let p : 10 ^ suc (suc k) ≡ 10 ^ suc k * 10 = pow-suc 10 (suc k) in
    omega (arith, later k (n / 10) ((48 + n % 10) ∷ done) ((div-lt_iff_lt-mul {k = 10} (omega arith)).1 (omega arith)))

short-digits : (f k n : ℕ) (done : List ℕ) → n < 10 ^ suc k → length (digits f n done) ≤ suc k + length done
unfolding digits turn
short-digits zero k n done h = omega arith
short-digits (suc f) k n done h = short_turn f k n done (short-digits f) h (ltb n 10) refl

pub decimal_three : (n : ℕ) → n < 1000 → length (decimal n) ≤ 3
unfolding decimal
decimal_three n h = short-digits 20 2 n [] h

-- What std writes of a number is these digits
prepends : PrependsLastDigit digits
unfolding digits turn
prepends = record {
  one = λ k n acc h. ap (turn k n acc) (lt-ltb n 10 h);
  more = λ k n acc h. ap (turn k n acc) (le-ltb n 10 h);
}

pub decimal_is : (n : ℕ) → n < 2 ^ 64 → Fmt.decimal n ≡ decimal n
unfolding decimal
decimal_is n h = sym (decimal_from_prepends digits prepends 20 n [] h (length-decimal-le 20 n (omega arith) (omega arith) h) ∙ append-nil (Fmt.decimal n))

-- a digit in its place
drop-set : (l : List ℕ) (i v : ℕ) → i < length l → drop i (set l i v) ≡ v ∷ drop (suc i) l
drop-set l i v h =
    drop-cons (set l i v) i 0 (lt-length-set l i v h) ∙
    (ap (λ x. x ∷ drop (suc i) (set l i v)) (get_or-set_same l i v 0 h) ∙ ap (λ xs. v ∷ xs) (drop-set-lt (suc i) l i v (omega arith)))

-- The digits of a number, put in their places from the end of a list
pub digits-begin : (n : ℕ) (bytes : List ℕ) → bytes ≡ replicate 20 0 → digits 20 n (drop 20 bytes) ≡ decimal n
unfolding decimal
digits-begin n bytes e = ap (λ (l : List ℕ). digits 20 n (drop 20 l)) e

module _ (bytes : List ℕ) (at n v : ℕ) (h : 0 < at) (i : at ≤ length bytes) where
  in_place : drop (at - 1) (set bytes (at - 1) v) ≡ v ∷ drop at bytes
  in_place = let e : suc (at - 1) ≡ at = omega arith in drop-set bytes (at - 1) v (omega arith) ∙ ap (λ m. v ∷ drop m bytes) e

  pub digits_turn : 10 ≤ n → v ≡ 48 + n % 10 → digits (at - 1) (n / 10) (drop (at - 1) (set bytes (at - 1) v)) ≡ digits at n (drop at bytes)
  digits_turn k e =
      ap (digits (at - 1) (n / 10)) (in_place ∙ ap (λ d. d ∷ drop at bytes) e) ∙ digits-next at n (drop at bytes) h k

  pub digits_end : n < 10 → v ≡ 48 + n → drop (at - 1) (set bytes (at - 1) v) ≡ digits at n (drop at bytes)
  digits_end k e = in_place ∙ ap (λ d. d ∷ drop at bytes) e ∙ digits_last at n (drop at bytes) h k
