-- Two stores make the first pair of the stack: the root, and its first child to come.
-- What is left to come is then the whole normal list.
use Rattle.walk.proofs.NormalLaws.{begins}
use Rattle.walk.proofs.normal.begin.Goals as goal

pub returns : goal.returns
returns c =
    let a = c.args in
    begins a.entries.now a.children.now a.stack.now a.root.0 c.requires.root_bound.0 c.requires.root_bound.1
