-- `book::words::word_at` meets its contract: the four bytes are the word's. Assumes nothing.
use Rattle.std.proofs.Common.{arith}
use Rattle.book.proofs.Decoding.{word_bytes}
use Rattle.book.proofs.words.word_at.Goals as goal

pub returns : goal.returns
returns c = omega (arith, word_bytes c.args.bytes.now c.args.at, c.from_le_bytes.ensures)
