-- `book::words::decode` meets its contract: one more word stands in its place each turn. Assumes nothing.
use Rattle.std.proofs.Common.{◌∙◌, ap, arith, length}
use Rattle.model.specs.Book.{words_of}
use Rattle.book.proofs.Decoding.{put_word, each_word}
use Rattle.book.proofs.words.decode.Goals as goal

pub loop-k-init : goal.loop-k-init
loop-k-init c = λ i h. absurd (omega arith)

pub loop-k-preserved : goal.loop-k-preserved
loop-k-preserved c =
    let l = c.loop-k in
    put_word c.args.bytes.now l.words l.k c.word_at.result (omega (arith, l.auto.words, c.loop-k-test.true)) c.word_at.ensures l.invariant

pub returns : goal.returns
returns c =
    let l = c.loop-k in
    each_word l.words c.args.bytes.now (λ i h. l.invariant i (omega (arith, l.auto.words)))
    ∙ ap (λ n. words_of n c.args.bytes.now) l.auto.words
