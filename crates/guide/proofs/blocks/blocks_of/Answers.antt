-- `blocks::blocks_of` meets its contract: the edition's sizes are those of the meaning, and each block lies behind the one before it.
use Prim.Native.Nat.{◌*◌}
use mathlib.Core.Path.{◌∙◌, ap₂}
use Rattle.guide.specs.meaning.Guide.{guide_of}
use Rattle.guide.proofs.Places.{places}
use Rattle.guide.proofs.blocks.blocks_of.Goals as goal

pub returns : goal.returns
unfolding guide_of
returns c =
    let e = c.edition_of-edition.ensures in
    let codes = c.behind-codes.ensures.0 ∙ places e.header e.line c.lines-lines.ensures.0 in
    let fields = c.behind-fields.ensures.0 ∙ places codes e.code c.codes.ensures.0 in
    let identifiers = c.behind-identifiers.ensures.0 ∙ places fields e.field c.fields.ensures.0 in
    let rows = c.behind-rows.ensures.0 ∙ places identifiers e.identifier c.identifiers-count.ensures.0 in
    record {
      codes = codes;
      fields = fields;
      identifiers = identifiers;
      rows = rows;
      end = c.behind-end.ensures.0 ∙ places rows e.row (ap₂ ◌*◌ c.identifiers-count.ensures.0 c.lines-lines.ensures.0);
    }
