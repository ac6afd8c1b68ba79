-- Law one-outcome: for each public call, two outcomes that meet its promise are equal.
-- The promises are the contracts of src/ themselves, as the check reads them (`Reads`), and no copies.
use mathlib.Core.Path.{◌≡◌, sym, ◌∙◌}
use Rattle.reading.proofs.service.Service.standard.Reads as standard
use Rattle.slices.proofs.byte_at.Reads as byte_at
use Rattle.slices.proofs.put.Reads as put
use Rattle.slices.proofs.entry_of.Reads as entry_of
use Rattle.reading.proofs.bytes.is_data.Reads as is_data
use Rattle.reading.proofs.bytes.is_digit.Reads as is_digit
use Rattle.reading.proofs.bytes.is_tag_byte.Reads as is_tag_byte
use Rattle.reading.proofs.bytes.kind_of.Reads as kind_of
use Rattle.reading.proofs.bytes.must_release.Reads as must_release
use Rattle.reading.proofs.machine.step.Reads as step
use Rattle.reading.proofs.machine.is_start.Reads as is_start_lem
use Rattle.reading.proofs.machine.is_dead.Reads as is_dead_lem
use Rattle.reading.proofs.segment.is_released.Reads as is_released
use Rattle.reading.proofs.segment.find_end.Reads as find_end
use Rattle.reading.proofs.machine.find_bad.Reads as find_bad
use Rattle.reading.proofs.bytes.is_text.Reads as is_text
use Rattle.reading.proofs.span.Span.empty_at.Reads as empty_at
use Rattle.reading.proofs.cursor.Cursor.first.Reads as first
use Rattle.reading.proofs.cursor.Cursor.next_segment.Reads as next_segment
use Rattle.reading.proofs.lookup.seek_from.Reads as seek_from
use Rattle.reading.proofs.lookup.component_span.Reads as component_span
use Rattle.reading.proofs.lookup.find_component.Reads as find_component
use Rattle.reading.proofs.compare.same_component.Reads as same_component_lem
use Rattle.reading.proofs.tag.tag_at.Reads as tag_at

-- one result: a promise speaks of a call's lifetimes κs, its arguments a, its result r, and its arguments at exit x
abbrev pub One {ℓ} : {K : Type ℓ} {A R X : K → Type ℓ} → ((κs : K) → A κs → R κs → X κs → Type 0) → Type ℓ
One P = (κs : _) (a : _) (r q : _) (x y : _) → P κs a r x → P κs a q y → r ≡ q

pub one_standard : One standard.Post
one_standard κs a r q x y m n = m ∙ sym n

pub one_byte_at : One byte_at.Post
one_byte_at κs a r q x y m n = m.0 ∙ sym n.0

pub one_is_digit : One is_digit.Post
one_is_digit κs a r q x y m n = m ∙ sym n

pub one_is_data : One is_data.Post
one_is_data κs a r q x y m n = m ∙ sym n

pub one_is_tag_byte : One is_tag_byte.Post
one_is_tag_byte κs a r q x y m n = m ∙ sym n

pub one_kind_of : One kind_of.Post
one_kind_of κs a r q x y m n = m ∙ sym n

pub one_is_text : One is_text.Post
one_is_text κs a r q x y m n = m ∙ sym n

pub one_must_release : One must_release.Post
one_must_release κs a r q x y m n = m ∙ sym n

pub one_step : One step.Post
one_step κs a r q x y m n = m ∙ sym n

pub one_is_start : One is_start_lem.Post
one_is_start κs a r q x y m n = m ∙ sym n

pub one_is_dead : One is_dead_lem.Post
one_is_dead κs a r q x y m n = m ∙ sym n

pub one_is_released : One is_released.Post
one_is_released κs a r q x y m n = m ∙ sym n

pub one_find_end : One find_end.Post
one_find_end κs a r q x y m n = m ∙ sym n

pub one_find_bad : One find_bad.Post
one_find_bad κs a r q x y m n = m ∙ sym n

pub one_empty_at : One empty_at.Post
one_empty_at κs a r q x y m n = m ∙ sym n

pub one_first : One first.Post
one_first κs a r q x y m n = λ i. record { at = (m ∙ sym n) i }

pub one_next_segment : One next_segment.Post
one_next_segment κs a r q x y m n = m ∙ sym n

pub one_seek_from : One seek_from.Post
one_seek_from κs a r q x y m n = m ∙ sym n

pub one_component_span : One component_span.Post
one_component_span κs a r q x y m n = m ∙ sym n

-- a part is where it lies in memory and what it holds
pub one_find_component : (κs : _) (a : _) (r q : _) (x y : _) → find_component.Post κs a r x → find_component.Post κs a q y
    → (r.ref_ptr ≡ q.ref_ptr) × (r.now ≡ q.now)
one_find_component κs a r q x y m n = (λ i. ((m.memory ∙ sym n.memory) i, (m.place ∙ sym n.place) i), m.bytes ∙ sym n.bytes)

pub one_same_component : One same_component_lem.Post
one_same_component κs a r q x y m n = m ∙ sym n

pub one_tag_at : One tag_at.Post
one_tag_at κs a r q x y m n = m.0 ∙ sym n.0

-- the table is the first argument, of values of any type T that is copied
pub one_put : (T laws copy clone dict : _) (κs : _) (a : _) (r q : _) (x y : _)
    → put.Post T laws copy clone dict κs a r x → put.Post T laws copy clone dict κs a q y → x.0.now ≡ y.0.now
one_put T laws copy clone dict κs a r q x y m n = m ∙ sym n

pub one_entry_of : One entry_of.Post
one_entry_of κs a r q x y m n = m ∙ sym n
