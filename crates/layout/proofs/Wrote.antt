-- The text laid so far: where it starts, how it grows, and how writers are chained. `Lays` of a loop's turns, from the line
-- and the slice where the loop began, is what a loop over writers keeps.
use mathlib.Core.Path.{◌≡◌, refl, sym, ◌∙◌}
use mathlib.Core.List.{List, [], ◌++◌, append-nil}
use Prim.Native.Nat.{ℕ, ◌+◌, ◌-◌, ◌≤◌}
use native.Mathlib.Omega.{arith}
use lib.ListN.{length, take, drop, replicate, length-append, length-take, length-replicate, take-append-drop}
use Rattle.defs.specs.Layout.{Line}
use Rattle.layout.specs.declared.lines.Line.{Line as End}
use Rattle.laws.specs.Puts.{Grows}
use Rattle.layout.specs.Laid.{Wrote, Lays}
use Rattle.laws.specs.Puts.{grow}

-- nothing is laid yet
pub wrote_none : (p : ℕ) (o : List ℕ) → Wrote (record { at = p; text = [] }) (record { at = p; end = 0 }) o o
wrote_none p o = record { position = refl; ends = refl; kept = refl; fits = λ h. refl }

-- the text grows at its end, and the position is moved as the definition moves it
pub wrote_more : {s : Line} {line : End} {start before after piece : List ℕ} {p q end : ℕ}
    → Wrote s line start before → p ≡ q → Grows piece line.end end before after
    → Wrote (record { at = q; text = s.text ++ piece }) (record { at = p; end = end }) start after
wrote_more {s} {line} {start} {before} {after} {piece} {p} {q} {end} w m g =
    record {
      position = m;
      ends = omega (arith, g.ends, w.ends, length-append s.text piece);
      kept = g.kept ∙ w.kept;
      fits = λ h.
          g.fits (omega (arith, w.kept))
          ∙ grow s.text piece start before line.end end w.ends g.ends (w.fits (omega (arith, g.ends)));
    }

-- all of the text fitted: what the slice holds
pub wrote_all : {s : Line} {line : End} {start held : List ℕ} → Wrote s line start held → line.end ≤ length start
    → held ≡ s.text ++ drop (length s.text) start
wrote_all w h = rw w.ends at (w.fits h)

-- every line of the code stands for some line of the definitions: what the slice holds up to its end, and any bytes past the slice
pub stands : (line : End) (held : List ℕ) → (s : Line) × Wrote s line held held
stands line held =
    let text : List ℕ = take line.end held ++ replicate (line.end - length held) 0 in
    let n : length text ≡ line.end =
    length-append (take line.end held) _ ∙ omega (arith, length-take line.end held, length-replicate {A = ℕ} (line.end - length held) 0) in (
      record { at = line.at; text = text },
      record {
        position = refl;
        ends = sym n;
        kept = refl;
        fits = λ h.
            let z : line.end - length held ≡ 0 = omega arith in
            sym (rw (z, append-nil) (take-append-drop line.end held));
      },
    )

-- ---- writers, chained

pub lays_none : (line : End) (o : List ℕ) → Lays (λ s. s) 0 line line o o
lays_none line o = record { lays = λ s start w. w; near = omega arith }

-- a writer after a writer
pub lays_then : {f g : Line → Line} {most more : ℕ} {line next last : End} {before between after : List ℕ}
    → Lays f most line next before between → Lays g more next last between after
    → Lays (λ s. g (f s)) (most + more) line last before after
lays_then {f} a b =
    record { lays = λ s start w. b.lays (f s) start (a.lays s start w); near = omega (arith, a.near, b.near) }

-- what a writer does, said in another way
pub lays_as : {f : Line → Line} {most : ℕ} {line next : End} {before after : List ℕ} → Lays f most line next before after
    → (g : Line → Line) (more : ℕ) → ((s : Line) → g s ≡ f s) → most ≤ more → Lays g more line next before after
lays_as a g more e h = record { lays = λ s start w. rw (e s) (a.lays s start w); near = omega (arith, a.near) }

-- a writer keeps the length of the slice
pub lays_kept : {f : Line → Line} {most : ℕ} {line next : End} {before after : List ℕ} → Lays f most line next before after
    → length after ≡ length before
lays_kept {line = line} {before = before} a = let s = stands line before in (a.lays s.0 before s.1).kept
