-- `write_text` meets its contract: each style's writer has it.
-- What a style's functions say is what its number says.
use Rattle.text.specs.Styles.{number_of, compressed_number, packed_number, compressed_zero}
use Rattle.defs.specs.Text.{is_compressed, is_packed}
use mathlib.Core.Path.{◌≡◌, sym, ◌∙◌}
use Rattle.text.proofs.writers.write_text.Goals.{After-compressed, After-packed}
use Rattle.text.proofs.writers.write_text.Goals as goal

-- what the style's functions say is what its number says
is-compressed : (c : After-compressed) → is_compressed (number_of c.args.style) ≡ c.compressed.result
is-compressed c = sym (compressed_number c.args.style) ∙ sym c.compressed.ensures

is-packed : (c : After-packed) → is_packed (number_of c.args.style) ≡ c.packed.result
is-packed c = sym (packed_number c.args.style) ∙ sym c.packed.ensures

pub write_compressed-requires : goal.write_compressed-requires
write_compressed-requires c = record {
  writable = c.requires.writable;
  writable_sums = c.requires.writable_sums (is-compressed (goal.at.write_compressed-requires c).After-compressed ∙ c.if-compressed.true);
}

pub returns-then-compressed : goal.returns-then-compressed
returns-then-compressed c = rw (compressed_zero _ (sym c.compressed.ensures ∙ c.if-compressed.true)) c.write_compressed.ensures

pub write_packed-requires : goal.write_packed-requires
write_packed-requires c = record {
  writable = c.requires.writable;
  style_value = (
    is-compressed (goal.at.write_packed-requires c).After-compressed ∙ c.if-compressed.false,
    is-packed (goal.at.write_packed-requires c).After-packed ∙ c.if-packed.true,
  );
}

pub write_normal-requires : goal.write_normal-requires
write_normal-requires c = record {
  writable = c.requires.writable;
  style_value = (
    is-compressed (goal.at.write_normal-requires c).After-compressed ∙ c.if-compressed.false,
    is-packed (goal.at.write_normal-requires c).After-packed ∙ c.if-packed.false,
  );
}
