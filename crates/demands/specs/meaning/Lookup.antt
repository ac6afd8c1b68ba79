-- The component lookup, of the call that is shipped: whatever outcome the contract of `tracksaddle_find_component` admits, the lent part holds
-- the place where 01 says that the component lies. (The third call, `tracksaddle_check_book`, promises `Judged` of book/specs/meaning as
-- it stands.)
use Rattle.std.specs.Prelude.{ℕ, ◌≡◌, List, length}
use Rattle.slices.specs.meaning.Lent.{as_many_as_fit}
use Rattle.reading.specs.meaning.Service.{standard}
use Rattle.reading.specs.meaning.Component.{ComponentPlace, Lies, span_of}
use Rattle.tracksaddle.specs.meaning.Door.{part_numbers}
use Rattle.tracksaddle.proofs.tracksaddle_find_component.Reads as find

-- what is handed over
pub record Sought : Type 0 where
  pub message : List ℕ
  pub at : ℕ
  pub element : ℕ
  pub component : ℕ
  -- lent, as it is before the call
  pub part : List ℕ

-- the part as the contract admits it after the call. The contract has the arguments one in another, in their order.
pub record Promised (s : Sought) (after : List ℕ) : Type 1 where
  pub lifetimes : _
  pub passed : _
  pub returned : _
  pub at_exit : _
  pub promise : find.Post lifetimes passed returned at_exit
  pub message : passed.0.now ≡ s.message
  pub at : passed.1.0 ≡ s.at
  pub element : passed.1.1.0 ≡ s.element
  pub component : passed.1.1.1.0 ≡ s.component
  pub part_before : passed.1.1.1.1.0.now ≡ s.part
  pub part_after : at_exit.1.1.1.1.0.now ≡ after

abbrev pub LiesAt : Sought → ComponentPlace → Type 0
LiesAt s p = Lies standard s.message s.at s.element s.component p

pub record Lookup : Type 1 where
  -- nobody has to check anything first; whatever is handed over there is an outcome, and the component lies somewhere: present, absent or
  -- nowhere
  pub asks_nothing : (κs : _) (a : _) → find.Pre κs a
  pub answers : (s : Sought) → (after : List ℕ) × Promised s after
  pub lies : (s : Sought) → (p : ComponentPlace) × LiesAt s p
  -- 01: "handed back as a part of the message itself, release bytes included; if absent, as the empty part at the segment's `'`": its offset
  -- and its length
  pub part : (s : Sought) (after : List ℕ) → Promised s after → (p : ComponentPlace) → LiesAt s p
      → after ≡ as_many_as_fit (part_numbers (span_of (length s.message) p)) s.part
