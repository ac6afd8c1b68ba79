-- A run over bytes may be cut anywhere; and a piece is such a run, over the whole memory of which the lent table is the front.
use Prim.Native.Nat.{ℕ, zero, suc}
use native.Mathlib.Omega.{arith}
use mathlib.Core.Path.{◌≡◌, refl, sym, ap, ap₂, ◌∙◌}
use mathlib.Core.List.{List, [], ◌∷◌, ◌++◌}
use mathlib.Core.Bool.{Bool, true, false, cond, ◌&&◌}
use lib.Dec.{ltb}
use lib.ListN.{length, set, replicate, length-set}
use lib.Seq.{take-append_seam, drop-append_seam}
use Rattle.slices.specs.method.Entries.{entry}
use Rattle.reading.specs.meaning.Service.{All}
use Rattle.reading.specs.method.Machine.{stepped, is_start}
use Rattle.reading.specs.declared.service.Service.{Service}
use Rattle.framing.specs.meaning.Limits.{most_bytes, most_segments}
use Rattle.pieces.specs.declared.progress.Progress.{Progress}
use Rattle.pieces.specs.method.Progress.{Held, held, held_after, progress_by, starts_by, with_start}
use Rattle.pieces_laws.specs.laws.Run.{ran_by, run}

-- with each byte of a piece comes the same
pub all_replicate : {A : Type 0} (P : A → Type 0) (a : A) → P a → (n : ℕ) → All P (replicate n a)
all_replicate P a h zero = tt
all_replicate P a h (suc n) = (h, all_replicate P a h n)

-- a start that is stored, or none, leaves the table as long as it was
chosen_long : (t : Bool) (xs table : List ℕ) → length xs ≡ length table → length (cond t xs table) ≡ length table
chosen_long true xs table e = e
chosen_long false xs table e = refl

module _ (s : Service) where
  starts_long : (p : Progress) (table : List ℕ) (b : ℕ) → length (starts_by s p table b) ≡ length table
  starts_long p table b =
      chosen_long (ltb p.bytes most_bytes && is_start (stepped s p.state b)) (with_start p.segments p.start table) table
      (chosen_long (ltb p.segments most_segments) (set table p.segments (entry p.start)) table (length-set table p.segments (entry p.start)))

  -- ---- one run after another is one

  pub run_append : (x : Held) (bs cs ls ks : List ℕ) → length bs ≡ length ls → run s x (bs ++ cs) (ls ++ ks) ≡ run s (run s x bs ls) cs ks
  unfolding run
  run_append x [] cs [] ks e = refl
  run_append x [] cs (l ∷ ls) ks e = absurd (omega arith)
  run_append x (b ∷ bs) cs [] ks e = absurd (omega arith)
  run_append x (b ∷ bs) cs (l ∷ ls) ks e = run_append (ran_by s x b l) bs cs ls ks (omega arith)

  -- ---- a piece

  -- the whole memory, of which a rest lies behind the lent table
  abbrev before : List ℕ → Held → Held
  before rest x = held x.progress (x.starts ++ rest)

  byte_run : (p : Progress) (table rest : List ℕ) (b : ℕ)
      → ran_by s (held p (table ++ rest)) b (length table) ≡ held (progress_by s p (length table) b) (starts_by s p table b ++ rest)
  byte_run p table rest b =
      ap₂ (λ (front back : List ℕ). held (progress_by s p (length table) b) (starts_by s p front b ++ back)) (take-append_seam table rest) (drop-append_seam table rest)

  whole_run : (p : Progress) (table rest piece : List ℕ)
      → before rest (held_after s (held p table) piece) ≡ run s (held p (table ++ rest)) piece (replicate (length piece) (length table))
  unfolding held_after run
  whole_run p table rest [] = refl
  whole_run p table rest (b ∷ bs) =
      let next = progress_by s p (length table) b in
      let stored = starts_by s p table b in
      whole_run next stored rest bs
      ∙ ap (λ (n : ℕ). run s (held next (stored ++ rest)) bs (replicate (length bs) n)) (starts_long p table b)
      ∙ sym (ap (λ (x : Held). run s x bs (replicate (length bs) (length table))) (byte_run p table rest b))

  pub piece_run : (p : Progress) (table rest piece : List ℕ)
      → ((held_after s (held p table) piece).progress ≡ (run s (held p (table ++ rest)) piece (replicate (length piece) (length table))).progress)
      × ((held_after s (held p table) piece).starts ++ rest ≡ (run s (held p (table ++ rest)) piece (replicate (length piece) (length table))).starts)
  piece_run p table rest piece = let e = whole_run p table rest piece in (ap (λ (x : Held). x.progress) e, ap (λ (x : Held). x.starts) e)
