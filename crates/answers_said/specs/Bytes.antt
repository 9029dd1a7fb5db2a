-- A quoted text as its bytes. Each character of those here is one byte.
use Rattle.std.specs.Prelude.{ℕ, List, [], ◌∷◌}
use Prim.Native.Char.{code}
use Prim.Native.String.{String, [] as none, ◌∷◌ as ◌then◌}

unfoldable pub bytes : String → List ℕ
bytes none = []
bytes (c then rest) = code c ∷ bytes rest
