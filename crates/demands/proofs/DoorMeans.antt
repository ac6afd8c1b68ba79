-- What the exported calls mean, under the standard service characters: a component lies where 01 says, and what is written into a
-- lent table is 01's "as many as fit, with nothing else there changed".
use Prim.Native.Nat.{ℕ, suc, ◌≤◌}
use mathlib.Core.Path.{◌≡◌, refl, sym, ap, ◌∙◌}
use mathlib.Core.List.{List, [], ◌∷◌}
use lib.ListN.{length, take, drop}
use lib.Seq.{take_all}
use denote.Bor.{Bor}
use denote.MutBor.{MutBor}
use Rattle.framing.specs.meaning.Record.{numbers_of}
use Rattle.framing.specs.declared.verdict.Verdict.{Verdict}
use Rattle.reading.specs.meaning.Service.{standard}
use Rattle.reading.specs.meaning.Component.{ComponentPlace, span_of}
use Rattle.reading.specs.method.Machine.{component_span}
use Rattle.reading.specs.declared.span.Span.{Span}
use Rattle.reading_laws.proofs.Services.{good_standard}
use Rattle.reading_laws.proofs.Spans.{lies, lies_at}
use Rattle.slices.specs.meaning.Lent.{as_many_as_fit}
use Rattle.tracksaddle.specs.meaning.Door.{part_numbers}
use Rattle.demands.specs.meaning.Lookup.{Sought, Promised, LiesAt, Lookup}

module _ (s : Sought) (after : List ℕ) (p : Promised s after) where
  promised : as_many_as_fit (part_numbers (component_span standard p.passed.0.now p.passed.1.0 p.passed.1.1.0 p.passed.1.1.1.0)) p.passed.1.1.1.1.0.now
      ≡ as_many_as_fit (part_numbers (component_span standard s.message s.at s.element s.component)) s.part
  promised i = as_many_as_fit (part_numbers (component_span standard (p.message i) (p.at i) (p.element i) (p.component i))) (p.part_before i)

  part_there : (k : ComponentPlace) → LiesAt s k → after ≡ as_many_as_fit (part_numbers (span_of (length s.message) k)) s.part
  part_there k l =
      sym p.part_after ∙ p.promise ∙ promised
      ∙ ap (λ (x : Span). as_many_as_fit (part_numbers x) s.part) (lies_at standard good_standard s.message s.at s.element s.component k l)

-- a slice as a call is handed it, with a made-up pointer, of which a contract says nothing
abbrev pub lent : List ℕ → Bor (List ℕ)
lent xs = record { ref_ptr = (0, 0); now = xs }

-- the same of a slice that the call may write
abbrev pub lent_to_write : List ℕ → MutBor (List ℕ)
lent_to_write xs = record { ref_ptr = (0, 0); ghost_name = 0; now = xs }

-- an outcome that the contract admits
outcome : (s : Sought) → (after : List ℕ) × Promised s after
outcome s =
    let after = as_many_as_fit (part_numbers (component_span standard s.message s.at s.element s.component)) s.part in (
      after,
      record {
        lifetimes = ([], ([], tt));
        passed = (lent s.message, (s.at, (s.element, (s.component, (lent_to_write s.part, tt)))));
        returned = tt;
        at_exit = (lent s.message, (s.at, (s.element, (s.component, (lent_to_write after, tt)))));
        promise = refl;
        message = refl;
        at = refl;
        element = refl;
        component = refl;
        part_before = refl;
        part_after = refl;
      },
    )

pub lookup : Lookup
lookup =
    record {
      asks_nothing = λ κs a. tt;
      answers = outcome;
      lies = λ s. lies standard good_standard s.message s.at s.element s.component;
      part = part_there;
    }

-- the first entries are the numbers, as many as there are entries
pub front_fits : (numbers table : List ℕ) → take (length numbers) (as_many_as_fit numbers table) ≡ take (length table) numbers
unfolding as_many_as_fit
front_fits [] [] = refl
front_fits [] (entry ∷ table) = refl
front_fits (number ∷ numbers) [] = refl
front_fits (number ∷ numbers) (entry ∷ table) = ap (◌∷◌ number) (front_fits numbers table)

-- the entries behind them, and how many there are, stay
pub rest_stays : (numbers table : List ℕ) → drop (length numbers) (as_many_as_fit numbers table) ≡ drop (length numbers) table
unfolding as_many_as_fit
rest_stays [] table = refl
rest_stays (number ∷ numbers) [] = refl
rest_stays (number ∷ numbers) (entry ∷ table) = rest_stays numbers table

pub length_stays : (numbers table : List ℕ) → length (as_many_as_fit numbers table) ≡ length table
unfolding as_many_as_fit
length_stays [] table = refl
length_stays (number ∷ numbers) [] = refl
length_stays (number ∷ numbers) (entry ∷ table) = ap suc (length_stays numbers table)

-- a lent record of six entries or more holds all of the verdict's numbers
pub whole_record : (v : Verdict) (table : List ℕ) → 6 ≤ length table → take 6 (as_many_as_fit (numbers_of v) table) ≡ numbers_of v
whole_record v table room = front_fits (numbers_of v) table ∙ take_all (length table) (numbers_of v) room
