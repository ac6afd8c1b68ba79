-- The segments that finished in a text: every text has one such message, and it is the one that a run has read.
use Prim.Native.Nat.{ℕ, ◌≤◌}
use native.Mathlib.Omega.{arith}
use mathlib.Core.Path.{◌≡◌, refl, sym, ap, ap₂, ◌∙◌, subst}
use mathlib.Core.List.{List, [], ◌∷◌, append-nil}
use mathlib.Core.Option.{none}
use lib.ListN.{length, replicate, length-replicate}
use Rattle.reading.specs.meaning.Service.{All, GoodService}
use Rattle.reading.specs.meaning.Message.{Segment, Message, ValidSegment, write_segments}
use Rattle.reading.specs.meaning.WellFormed.{NoSegmentAt}
use Rattle.reading.specs.declared.service.Service.{Service}
use Rattle.reading.specs.declared.machine.State.TheVariants.{Start}
use Rattle.reading_laws.proofs.Segments.{behind, none_some, behind_segment}
use Rattle.reading_laws.proofs.OneReading.{one_segment}
use Rattle.pieces.specs.meaning.Starts.{Finished, StartsLeft}
use Rattle.pieces.specs.declared.progress.Progress.{Progress}
use Rattle.pieces_laws.proofs.Runs.{all_replicate}
use Rattle.pieces_laws.proofs.Sound.{Sound, sound_begin, sound_run}

module _ (s : Service) (good : GoodService s) where
  -- ---- there is one such message

  one_front : (m n : Message) (v w : List ℕ) → All ValidSegment m → All ValidSegment n → NoSegmentAt s v 0 → NoSegmentAt s w 0
      → write_segments s m v ≡ write_segments s n w → m ≡ n
  unfolding write_segments
  one_front [] [] v w a b f h e = refl
  one_front [] (y ∷ n) v w a b f h e = absurd (f y (record { valid = b.0; rest = write_segments s n w; same = e }))
  one_front (x ∷ m) [] v w a b f h e = absurd (h x (record { valid = a.0; rest = write_segments s m v; same = sym e }))
  one_front (x ∷ m) (y ∷ n) v w a b f h e =
      let k : (x ≡ y) × (write_segments s m v ≡ write_segments s n w) = one_segment s good x y _ _ e in
      ap₂ (λ (g : Segment) (gs : Message). g ∷ gs) k.0 (one_front m n v w a.1 b.1 f h k.1)

  pub one_finished : (text : List ℕ) (m n : Message) → Finished s text m → Finished s text n → m ≡ n
  one_finished text m n x y = one_front m n x.rest y.rest x.valid y.valid x.no_more y.no_more (sym x.same ∙ y.same)

  -- ---- a run has read it

  module _ {memory text lents : List ℕ} {p : Progress} {now : List ℕ} (x : Sound s memory text lents p now) where
    none_behind : behind s Start x.parsed.partial ≡ none
    unfolding behind
    none_behind = ap (behind s Start) (sym (append-nil x.parsed.partial)) ∙ x.parsed.going []

    pub finished_here : Finished s text x.message
    finished_here =
        record {
          valid = x.parsed.valid;
          rest = x.parsed.partial;
          same = x.parsed.written;
          no_more = λ g i. none_some (sym none_behind ∙ ap (behind s Start) i.same ∙ behind_segment s good g i.rest i.valid);
        }

    pub sound_starts : (m : Message) → Finished s text m → StartsLeft s m lents memory now
    sound_starts m f = subst (λ (n : Message). StartsLeft s n lents memory now) (one_finished text x.message m finished_here f) x.told.starts

  -- ---- and any text can be run over

  pub some_finished : (text : List ℕ) → (m : Message) × Finished s text m
  some_finished text =
      let none : List ℕ = replicate (length text) 0 in
      let x = sound_run s good (sound_begin s []) text none (sym (length-replicate (length text) 0)) (all_replicate (λ lent. lent ≤ 0) 0 (omega arith) (length text)) in
      (x.message, finished_here x)
