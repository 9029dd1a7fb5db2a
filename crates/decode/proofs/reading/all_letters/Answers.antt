-- `all_letters` meets its contract. The code's state is that of the definition's reading of the letters so far.
-- It begins with no reading at all.
use mathlib.Core.Path.{◌≡◌}
use native.Mathlib.Omega.{arith}
use Rattle.std.proofs.Common.{rules}
use Rattle.std.specs.Prelude.{None}
use Rattle.decode.proofs.LoopLaws.{read_none, ready, read_more, read_refused, read_inside, read_all}
use Rattle.decode.proofs.reading.all_letters.Goals as goal

pub loop-byte-init : goal.loop-byte-init
loop-byte-init c = read_none _ _ _ _

pub one_letter-requires : goal.one_letter-requires
one_letter-requires c = let p = c.loop-byte in (c.requires, ready _ _ _ _ p.byte-index p.state p.out p.invariant (omega arith))

pub returns-in_err-state : goal.returns-in_err-state
returns-in_err-state c =
    let p = c.loop-byte in
    let none : c.from_residual.result ≡ None = search rules in
    rw none (read_refused _ _ _ _ p.byte-index p.state p.out p.invariant _ _ _ c.loop-byte-test.true c.in_err-state.was
    (c.one_letter.ensures p.invariant.reading c.args.out.now p.invariant.keeps))

pub loop-byte-preserved : goal.loop-byte-preserved
loop-byte-preserved c =
    let p = c.loop-byte in
    read_more _ _ _ _ p.byte-index p.state p.out p.invariant _ _ _ c.loop-byte-test.true c.in_ok-state.was
    (c.one_letter.ensures p.invariant.reading c.args.out.now p.invariant.keeps)

pub returns-then-state-ne0 : goal.returns-then-state-ne0
returns-then-state-ne0 c = let p = c.loop-byte in read_inside _ _ _ _ p.byte-index p.state p.out p.invariant c.loop-byte-test.false (λ e. omega arith)

pub returns : goal.returns
returns c = let p = c.loop-byte in read_all _ _ _ _ p.byte-index p.state p.out p.invariant c.loop-byte-test.false (omega arith)
