-- `finish_code` meets its contract. What is kept of the number decides as the number does; a number that names a step adds it,
-- and its words where the slice has room for them.
use mathlib.Core.Path.{◌≡◌}
use native.Mathlib.Omega.{arith}
use Rattle.std.proofs.Common.{rules}
use Rattle.std.specs.Prelude.{None}
use Rattle.decode.proofs.ReadingLaws.{too_large, names_nothing, names_step}
use Rattle.decode.proofs.reading.finish_code.Goals as goal

pub returns-in_err-v : goal.returns-in_err-v
returns-in_err-v c =
    let none : c.from_residual.result ≡ None = search rules in
    λ reading x before e k. rw none (too_large _ _ reading x _ _ before _ e k _ c.finish.ensures _ _ c.in_err-v.was)

pub returns-then-names-v : goal.returns-then-names-v
returns-then-names-v c = λ reading x before e k. names_nothing _ _ reading x _ _ before _ e k _ c.finish.ensures _ _ _ c.in_ok-v.was (omega arith)

pub returns : goal.returns
returns c = λ reading x before e k.
    names_step _ _ reading x _ _ before _ e k _ c.finish.ensures _ _ _ _ (cc) c.in_ok-v.was (omega arith) c.step_named.ensures
    c.put_step.auto.out c.put_step.ensures
