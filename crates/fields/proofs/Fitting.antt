-- What the functions that test one field ask of its bytes: whether there are any, and how many count.
use Prim.Native.Nat.{ℕ, suc, ◌+◌, ◌-◌, ◌≤◌, ◌<◌}
use native.Mathlib.Omega.{arith}
use mathlib.Core.Path.{◌≡◌, refl, sym, ap, ◌∙◌}
use mathlib.Core.List.{[], ◌∷◌}
use mathlib.Core.Bool.{Bool, true, false, cond, not, ◌&&◌, ◌||◌}
use lib.Dec.{eqb, leb}
use Rattle.std.specs.Prelude.{Option, Some, None}
use Rattle.std.specs.List.{position, position_from}
use Rattle.std.specs.Option.{unwrap_or}
use Rattle.std.proofs.lemmas.Option.{none-some}
use Rattle.std.proofs.lemmas.List.{take_rest}
use Rattle.std.proofs.lemmas.Iterator.Adapters.{position_from-zero}
use lib.ListN.{length, take, drop, drop_of_length-le, length-drop}
use lib.Seq.{drop-drop}
use borrow.Author.Tests.{le-leb}
use Rattle.guide.specs.meaning.Guide.{Guide}
use Rattle.reading.specs.meaning.Component.{value_from, kept_or_released, value_of}
use Rattle.reading.specs.declared.service.Service.{Service}
use Rattle.fields.specs.meaning.Number.{minus, figures}
use Rattle.fields.specs.method.Parts.{Raw, has_bytes}

pub bytes_none : (x : Raw) → length x ≡ 0 → has_bytes x ≡ false
unfolding has_bytes
bytes_none [] h = refl
bytes_none (b ∷ bs) h = absurd (omega arith)

pub bytes_some : (x : Raw) → (length x ≡ 0 → ⊥) → has_bytes x ≡ true
unfolding has_bytes
bytes_some [] h = absurd (h refl)
bytes_some (b ∷ bs) h = refl

-- a number has no more figures than bytes
figures_few : (s : Service) (x : Raw) → figures s x ≤ length x
unfolding figures
figures_few s [] = omega arith
figures_few s (b ∷ bs) = go (eqb b minus || eqb b s.decimal) (figures_few s bs)
  where
    go : (t : Bool) → figures s bs ≤ length bs → cond t (figures s bs) (suc (figures s bs)) ≤ length (b ∷ bs)
    go true h = omega arith
    go false h = omega arith

-- ---- the length of a text

module _ (s : Service) where
  -- the next byte either releases, or stands in the value
  value_next : (r : Bool) (b : ℕ) (bs : Raw)
      → length (value_from s r (b ∷ bs)) ≡ cond (not r && eqb b s.release) (length (value_from s true bs)) (suc (length (value_from s false bs)))
  unfolding value_from
  value_next true b bs = refl
  value_next false b bs = go (eqb b s.release)
    where
      go : (t : Bool) → length (kept_or_released t b (value_from s false bs) (value_from s true bs)) ≡ cond t (length (value_from s true bs)) (suc (length (value_from s false bs)))
      go true = refl
      go false = refl

  value_none : (r : Bool) → length (value_from s r []) ≡ 0
  unfolding value_from
  value_none r = refl

  -- a value has no more bytes than are written
  value_few : (r : Bool) (x : Raw) → length (value_from s r x) ≤ length x
  value_few r [] = let z = value_none r in omega arith
  value_few r (b ∷ bs) = let n = value_next r b bs in let p = value_few true bs in let q = value_few false bs in go (not r && eqb b s.release) n p q
    where
      go : (t : Bool) → length (value_from s r (b ∷ bs)) ≡ cond t (length (value_from s true bs)) (suc (length (value_from s false bs)))
          → length (value_from s true bs) ≤ length bs → length (value_from s false bs) ≤ length bs → length (value_from s r (b ∷ bs)) ≤ length (b ∷ bs)
      go true n p q = omega arith
      go false n p q = omega arith

  -- so many of the bytes before what is left release the next; the others of them stand in the value
  pub record Measuring (x : Raw) (releases : ℕ) (rest : Raw) : Type 0 where
    pub few : releases + length rest ≤ length x
    pub same : length x + length (value_from s false rest) ≡ releases + length (value_of s x) + length rest

  -- such a byte releases the next, where it is not released itself
  abbrev releasing : ℕ → Bool
  releasing b = eqb b s.release

  -- a byte releases the next, which may be missing: of the bytes up to that one all but one stand in the value
  record Jumped (x : Raw) (at : ℕ) : Type 0 where
    within : at < length x
    same : length (value_from s false x) + length (drop (suc (suc at)) x) + 1 ≡ length (value_from s false (drop (suc (suc at)) x)) + length x

  -- the byte that is released, which may be missing
  released : (x : Raw) → length (value_from s true x) + length (drop 1 x) ≡ length (value_from s false (drop 1 x)) + length x
  released [] = let n = value_none true in let m = value_none false in omega arith
  released (b ∷ bs) = let n = value_next true b bs in omega arith

  jumped : (k at : ℕ) (x : Raw) → position_from releasing k x ≡ Some at → (i : ℕ) × (at ≡ k + i) × Jumped x i
  jumped k at [] e = absurd (none-some _ e)
  jumped k at (b ∷ bs) e = go (releasing b) (value_next false b bs) (jumped (k + 1) at bs) e
    where
      go : (t : Bool) → length (value_from s false (b ∷ bs)) ≡ cond t (length (value_from s true bs)) (suc (length (value_from s false bs)))
          → (position_from releasing (k + 1) bs ≡ Some at → (i : ℕ) × (at ≡ k + 1 + i) × Jumped bs i)
          → cond t (Some k) (position_from releasing (k + 1) bs) ≡ Some at → (i : ℕ) × (at ≡ k + i) × Jumped (b ∷ bs) i
      go true n further e = let r = released bs in let h = ap (λ (o : Option ℕ). unwrap_or o 0) e in (0, omega arith, record { within = omega arith; same = omega arith })
      go false n further e =
          let found = further e in
          let h = found.1 in let w = found.2.within in let g = found.2.same in
          (suc found.0, omega arith, record { within = omega arith; same = omega arith })

  none_left : (k : ℕ) (x : Raw) → position_from releasing k x ≡ None → length (value_from s false x) ≡ length x
  none_left k [] e = value_none false
  none_left k (b ∷ bs) e = go (releasing b) (value_next false b bs) (none_left (k + 1) bs) e
    where
      go : (t : Bool) → length (value_from s false (b ∷ bs)) ≡ cond t (length (value_from s true bs)) (suc (length (value_from s false bs)))
          → (position_from releasing (k + 1) bs ≡ None → length (value_from s false bs) ≡ length bs)
          → cond t (Some k) (position_from releasing (k + 1) bs) ≡ None → length (value_from s false (b ∷ bs)) ≡ length (b ∷ bs)
      go true n further e = absurd (none-some _ (sym e))
      go false n further e = let m = further e in omega arith

  module _ (x : Raw) where
    pub measuring_begin : Measuring x 0 x
    measuring_begin = record { few = omega arith; same = omega arith }

    module _ (releases : ℕ) (rest : Raw) (i : Measuring x releases rest) where
      module _ (at : ℕ) (e : position releasing rest ≡ Some at) where
        on : Measuring x (releases + 1) (drop (suc (suc at)) rest)
        on =
            let j = jumped 0 at rest (sym (position_from-zero releasing rest) ∙ e) in
            let h : at ≡ j.0 = omega (arith, j.1) in
            let w = j.2.within in let g = j.2.same in let f = i.few in let m = i.same in let d = length-drop (suc (suc j.0)) rest in
            rw h (record { few = omega arith; same = omega arith })

        -- the byte that releases another, and what stands behind it
        abbrev from : Raw
        from = take (length rest - at) (drop at rest)

        pub measuring_two : Measuring x (releases + 1) (take (length from - 2) (drop 2 from))
        measuring_two =
            let two : at + 2 ≡ suc (suc at) = omega arith in
            rw (take_rest from 2 ∙ ap (drop 2) (take_rest rest at) ∙ drop-drop 2 at rest ∙ ap (λ (n : ℕ). drop n rest) two) on

        pub measuring_last : length from < 2 → Measuring x (releases + 1) []
        measuring_last h =
            let n = length-drop at rest in
            let k = ap length (take_rest rest at) in
            let short : length rest ≤ suc (suc at) = omega arith in
            rw (sym (drop_of_length-le rest short)) on

      pub measuring_done : position releasing rest ≡ None → length x - releases ≡ length (value_of s x)
      measuring_done e = let n = none_left 0 rest (sym (position_from-zero releasing rest) ∙ e) in let f = i.few in let g = i.same in omega arith

module _ (g : Guide) (f : ℕ) (s : Service) (x : Raw) (l : ℕ) (e : l ≡ g.longest f) where
  pub short_text : length x ≤ l → true ≡ leb (length (value_of s x)) (g.longest f)
  short_text h = let n = value_few s false x in sym (le-leb (length (value_of s x)) (g.longest f) (omega arith))

  pub short_number : length x ≤ l → true ≡ leb (figures s x) (g.longest f)
  short_number h = let n = figures_few s x in sym (le-leb (figures s x) (g.longest f) (omega arith))

-- ---- the steps of each function

pub ruleset measuring = (measuring_begin, measuring_done)

pub ruleset bytes = (bytes_none, bytes_some)
