-- The hash of the front of the output is that of its first elements.
-- Of each element its number is hashed, at the front as anywhere.
use Rattle.std.proofs.Common.{◌≡◌, arith, refl, sym, length, take, map, ◌∙◌}
use Rattle.std.proofs.lemmas.List.{take-map, length-map}
use Rattle.vectors.specs.Hash.{hash_to}
use Rattle.vectors.proofs.HashLaws.{hash_front}
use Rattle.vectors.proofs.operations.of_output.Goals as goal

pub returns : goal.returns
returns g c =
    let f = g.T.Element.number in
    let n : length (map f c.args.out.now) ≡ length c.args.out.now = length-map c.args.out.now f in
    let same : length (take c.args.count c.args.out.now) ≡ length (take c.args.count (map f c.args.out.now)) = rw take-map (sym (length-map _ f)) in
    let is : c.hash.result ≡ hash_to (map f c.args.out.now) c.args.count =
    c.hash.ensures ∙ rw (← take-map, same) (hash_front (map f c.args.out.now) c.args.count (omega (arith, n))) in
    rw is refl
