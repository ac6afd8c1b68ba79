-- Law one-outcome: for each public call of guide and of book, two outcomes that meet its promise are equal.
-- The promises are the contracts of src/ themselves, as the check reads them (`Reads`), and no copies.
use Prim.Native.Nat.{ℕ}
use native.Mathlib.Omega.{arith}
use mathlib.Core.Path.{◌≡◌, refl, sym, ◌∙◌}
use mathlib.Core.List.{List}
use mathlib.Core.Bool.{Bool, true, false}
use lib.Dec.{eqb}
use borrow.Author.Tests.{eqb-true, eqb-false}
use Rattle.reading_laws.proofs.OneOutcome.{One}
use Rattle.std.specs.Prelude.{Result, Ok, Err}
use Rattle.book.specs.meaning.GoodBook.{Judged}
use Rattle.book.specs.method.Answer.{number_of}
use Rattle.book.specs.declared.check.BadBook.{BadBook}
use Rattle.book.proofs.check_book.Reads as check_book
use Rattle.guide.proofs.edition.edition_of.Reads as edition_of
use Rattle.guide.proofs.blocks.blocks_of.Reads as blocks_of
use Rattle.guide.proofs.head.number.Reads as number
use Rattle.guide.proofs.code.is_any_code.Reads as is_any_code
use Rattle.guide.proofs.layout.lines.Reads as lines
use Rattle.guide.proofs.layout.codes.Reads as codes
use Rattle.guide.proofs.layout.fields.Reads as fields
use Rattle.guide.proofs.layout.identifiers.Reads as identifiers
use Rattle.guide.proofs.layout.conditions.Reads as conditions
use Rattle.guide.proofs.layout.carrier.Reads as carrier
use Rattle.guide.proofs.layout.kind.Reads as kind
use Rattle.guide.proofs.layout.is_group.Reads as is_group
use Rattle.guide.proofs.layout.depth.Reads as depth
use Rattle.guide.proofs.layout.tag_byte.Reads as tag_byte
use Rattle.guide.proofs.layout.tag.Reads as tag
use Rattle.guide.proofs.layout.required.Reads as required
use Rattle.guide.proofs.layout.selector_element.Reads as selector_element
use Rattle.guide.proofs.layout.selector_component.Reads as selector_component
use Rattle.guide.proofs.layout.first_code.Reads as first_code
use Rattle.guide.proofs.layout.code_count.Reads as code_count
use Rattle.guide.proofs.layout.maximum.Reads as maximum
use Rattle.guide.proofs.layout.first_field.Reads as first_field
use Rattle.guide.proofs.layout.field_count.Reads as field_count
use Rattle.guide.proofs.layout.code_length.Reads as code_length_lem
use Rattle.guide.proofs.layout.code_byte.Reads as code_byte
use Rattle.guide.proofs.layout.code_end.Reads as code_end
use Rattle.guide.proofs.layout.code_low.Reads as code_low
use Rattle.guide.proofs.layout.code_high.Reads as code_high
use Rattle.guide.proofs.layout.element.Reads as element
use Rattle.guide.proofs.layout.component.Reads as component
use Rattle.guide.proofs.layout.presence.Reads as presence
use Rattle.guide.proofs.layout.form.Reads as form
use Rattle.guide.proofs.layout.longest.Reads as longest
use Rattle.guide.proofs.layout.first_value.Reads as first_value
use Rattle.guide.proofs.layout.value_count.Reads as value_count
use Rattle.guide.proofs.layout.field_end.Reads as field_end
use Rattle.guide.proofs.layout.identifier_byte.Reads as identifier_byte
use Rattle.guide.proofs.layout.mode.Reads as mode
use Rattle.guide.proofs.layout.joint.Reads as joint
use Rattle.guide.proofs.layout.condition.Reads as condition
use Rattle.guide.proofs.layout.row_end.Reads as row_end

pub one_judged : (bs : List ℕ) (r q : ℕ) → Judged bs r → Judged bs q → r ≡ q
one_judged bs r q x y = go (eqb r 0) (eqb q 0) (eqb-true r 0) (eqb-false r 0) (eqb-true q 0) (eqb-false q 0) refl refl
  where
    go : (t u : Bool) → (eqb r 0 ≡ true → r ≡ 0) → (eqb r 0 ≡ false → r ≡ 0 → ⊥) → (eqb q 0 ≡ true → q ≡ 0) → (eqb q 0 ≡ false → q ≡ 0 → ⊥)
        → eqb r 0 ≡ t → eqb q 0 ≡ u → r ≡ q
    go true u a b c d e f = a e ∙ sym (y.good (x.accepted (a e)))
    go false true a b c d e f = absurd (b e (x.good (y.accepted (c f))))
    go false false a b c d e f = x.malformed (b e) ∙ sym (y.malformed (d f))

one_answer : (r q : Result (Unit {0}) BadBook) → number_of r ≡ number_of q → r ≡ q
one_answer (Ok x) (Ok y) e = refl
one_answer (Ok x) (Err y) e = absurd (omega (arith, e))
one_answer (Err x) (Ok y) e = absurd (omega (arith, e))
one_answer (Err x) (Err y) e = refl

pub one_check_book : One check_book.Post
one_check_book κs a r q x y m n = one_answer r q (one_judged _ (number_of r) (number_of q) m n)

pub one_edition_of : One edition_of.Post
one_edition_of κs a r q x y m n = λ i. record { number = (m.number ∙ sym n.number) i; header = (m.header ∙ sym n.header) i; line = (m.line ∙ sym n.line) i; code = (m.code ∙ sym n.code) i; field = (m.field ∙ sym n.field) i; identifier = (m.identifier ∙ sym n.identifier) i; row = (m.row ∙ sym n.row) i }

pub one_blocks_of : One blocks_of.Post
one_blocks_of κs a r q x y m n = λ i. record { codes = (m.codes ∙ sym n.codes) i; fields = (m.fields ∙ sym n.fields) i; identifiers = (m.identifiers ∙ sym n.identifiers) i; rows = (m.rows ∙ sym n.rows) i; end = (m.end ∙ sym n.end) i }

pub one_is_any_code : One is_any_code.Post
one_is_any_code κs a r q x y m n = m ∙ sym n

-- the accessors
pub one_number : One number.Post
one_number κs a r q x y m n = m.0 ∙ sym n.0

pub one_lines : One lines.Post
one_lines κs a r q x y m n = m.0 ∙ sym n.0

pub one_codes : One codes.Post
one_codes κs a r q x y m n = m.0 ∙ sym n.0

pub one_fields : One fields.Post
one_fields κs a r q x y m n = m.0 ∙ sym n.0

pub one_identifiers : One identifiers.Post
one_identifiers κs a r q x y m n = m.0 ∙ sym n.0

pub one_conditions : One conditions.Post
one_conditions κs a r q x y m n = m.0 ∙ sym n.0

pub one_carrier : One carrier.Post
one_carrier κs a r q x y m n = m.0 ∙ sym n.0

pub one_kind : One kind.Post
one_kind κs a r q x y m n = m.0 ∙ sym n.0

pub one_is_group : One is_group.Post
one_is_group κs a r q x y m n = m ∙ sym n

pub one_depth : One depth.Post
one_depth κs a r q x y m n = m.0 ∙ sym n.0

pub one_tag_byte : One tag_byte.Post
one_tag_byte κs a r q x y m n = m.0 ∙ sym n.0

pub one_tag : One tag.Post
one_tag κs a r q x y m n = m.0 ∙ sym n.0

pub one_required : One required.Post
one_required κs a r q x y m n = m.0 ∙ sym n.0

pub one_selector_element : One selector_element.Post
one_selector_element κs a r q x y m n = m.0 ∙ sym n.0

pub one_selector_component : One selector_component.Post
one_selector_component κs a r q x y m n = m.0 ∙ sym n.0

pub one_first_code : One first_code.Post
one_first_code κs a r q x y m n = m.0 ∙ sym n.0

pub one_code_count : One code_count.Post
one_code_count κs a r q x y m n = m.0 ∙ sym n.0

pub one_maximum : One maximum.Post
one_maximum κs a r q x y m n = m.0 ∙ sym n.0

pub one_first_field : One first_field.Post
one_first_field κs a r q x y m n = m.0 ∙ sym n.0

pub one_field_count : One field_count.Post
one_field_count κs a r q x y m n = m.0 ∙ sym n.0

pub one_code_length : One code_length_lem.Post
one_code_length κs a r q x y m n = m.0 ∙ sym n.0

pub one_code_byte : One code_byte.Post
one_code_byte κs a r q x y m n = m.0 ∙ sym n.0

pub one_code_end : One code_end.Post
one_code_end κs a r q x y m n = m.0 ∙ sym n.0

pub one_code_low : One code_low.Post
one_code_low κs a r q x y m n = m.0 ∙ sym n.0

pub one_code_high : One code_high.Post
one_code_high κs a r q x y m n = m.0 ∙ sym n.0

pub one_element : One element.Post
one_element κs a r q x y m n = m.0 ∙ sym n.0

pub one_component : One component.Post
one_component κs a r q x y m n = m.0 ∙ sym n.0

pub one_presence : One presence.Post
one_presence κs a r q x y m n = m.0 ∙ sym n.0

pub one_form : One form.Post
one_form κs a r q x y m n = m.0 ∙ sym n.0

pub one_longest : One longest.Post
one_longest κs a r q x y m n = m.0 ∙ sym n.0

pub one_first_value : One first_value.Post
one_first_value κs a r q x y m n = m.0 ∙ sym n.0

pub one_value_count : One value_count.Post
one_value_count κs a r q x y m n = m.0 ∙ sym n.0

pub one_field_end : One field_end.Post
one_field_end κs a r q x y m n = m.0 ∙ sym n.0

pub one_identifier_byte : One identifier_byte.Post
one_identifier_byte κs a r q x y m n = m.0 ∙ sym n.0

pub one_mode : One mode.Post
one_mode κs a r q x y m n = m.0 ∙ sym n.0

pub one_joint : One joint.Post
one_joint κs a r q x y m n = m.0 ∙ sym n.0

pub one_condition : One condition.Post
one_condition κs a r q x y m n = m.0 ∙ sym n.0

pub one_row_end : One row_end.Post
one_row_end κs a r q x y m n = m.0 ∙ sym n.0
