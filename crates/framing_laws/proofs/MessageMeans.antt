-- The message alone says what the table says: numbers 5 to 9 in terms of the abstract message.
use Prim.Native.Nat.{ℕ, suc, ◌≤◌}
use native.Mathlib.Omega.{arith}
use mathlib.Core.Path.{◌≡◌, refl, sym, ap, ap₂, ◌∙◌, subst}
use mathlib.Core.List.{List, [], ◌∷◌, ◌++◌, append_assoc, append-nil}
use mathlib.Core.Bool.{Bool, true, false, false≢true, cond, not, ◌||◌}
use mathlib.Core.Logic.{◌↔◌, inl, inr}
use lib.Dec.{eqb, leb}
use lib.ListN.{length, length-append}
use borrow.Author.Tests.{eq-eqb, ne_eqb, eqb-true, eqb-false, le-leb, leb-true}
use Rattle.std.specs.Prelude.{Ok, Err}
use Rattle.reading.specs.meaning.Service.{All, GoodService}
use Rattle.reading.specs.meaning.Message.{Component, Segment, Message, ValidTag, ValidSegment, write_component, write_segments, render}
use Rattle.reading.specs.meaning.Component.{value_at, same_component}
use Rattle.reading.specs.meaning.WellFormed.{WellFormed, SegmentAt}
use Rattle.reading.specs.meaning.Tag.{tag_number, UNH, UNT}
use Rattle.reading.specs.method.Tag.{tag_at}
use Rattle.reading.specs.declared.service.Service.{Service}
use Rattle.reading_laws.proofs.Lists.{all_map}
use Rattle.reading_laws.proofs.Services.{digit_word}
use Rattle.reading_laws.proofs.Cursors.{written_at}
use Rattle.reading_laws.proofs.Values.{part_is_value, same_part}
use Rattle.reading_laws.proofs.OneReading.{IsWord, raw_is_value, word_written}
use Rattle.reading.specs.meaning.Starts.{starts_in, starts_of}
use Rattle.reading_laws.proofs.Starts.{found_starts}
use Rattle.reading_laws.proofs.Tags.{one_tag, valid_unh, valid_unt, tag_of_segment}
use Rattle.reading.specs.meaning.Digit.{is_digit}
use Rattle.framing.specs.meaning.Decimal.{InDecimal}
use Rattle.framing.specs.method.Decimal.{is_decimal}
use Rattle.framing.specs.method.Stages.{Frame, is_misplaced, frame_from, frame_of, component_at}
use Rattle.framing.specs.meaning.Table.{Unless, FirstWrong, NoneWrong, Misplaced, no_unh, another_unh, no_unt, another_unt, IsFirst, IsLast, TellsCount, TellsReference}
use Rattle.framing.specs.declared.refusal.Refusal.TheVariants as refusal
use Rattle.framing.specs.declared.verdict.Verdict.{Verdict}
use Rattle.framing_laws.proofs.Decimals.{decimal}
use Rattle.reading.proofs.Booleans.{or-true}

-- ---- tests and what they say

-- a stage of the table: its test, its fault, and the rest
pub unless : {P R : Type 0} (b : Bool) (x y v : Verdict) → ((b ≡ true) ↔ P) → ((y ≡ v) ↔ R) → (cond b y x ≡ v) ↔ Unless P (v ≡ x) R
unless {P} {R} true x y v p r = (λ e. inr (p.0 refl, r.0 e), from)
  where
    from : Unless P (v ≡ x) R → y ≡ v
    from (inl (n, e)) = absurd (n (p.0 refl))
    from (inr (h, q)) = r.1 q
unless {P} {R} false x y v p r = (λ e. inl (λ h. false≢true (p.1 h), sym e), from)
  where
    from : Unless P (v ≡ x) R → x ≡ v
    from (inl (n, e)) = sym e
    from (inr (h, q)) = absurd (false≢true (p.1 h))

pub few_exactly : (n m : ℕ) → (leb n m ≡ true) ↔ (n ≤ m)
few_exactly n m = (leb-true n m, le-leb n m)

-- ---- number 7

pub misplaced_exactly : (n k : ℕ) (g : Segment) → ValidTag g.tag → (is_misplaced n k (tag_number g.tag) ≡ true) ↔ Misplaced n k g
misplaced_exactly n k g v = (to (eqb k 1) (eqb (tag_number g.tag) (tag_number UNH)) (eqb k n) (eqb (tag_number g.tag) (tag_number UNT)) refl refl refl refl, from)
  where
    to : (a b c d : Bool) → eqb k 1 ≡ a → eqb (tag_number g.tag) (tag_number UNH) ≡ b → eqb k n ≡ c → eqb (tag_number g.tag) (tag_number UNT) ≡ d
        → (cond a (not b) b || cond c (not d) d) ≡ true → Misplaced n k g
    to true false c d p q r s e = no_unh (eqb-true k 1 p) (λ z. eqb-false (tag_number g.tag) (tag_number UNH) q (ap tag_number z))
    to false true c d p q r s e = another_unh (eqb-false k 1 p) (one_tag g.tag UNH v valid_unh (eqb-true (tag_number g.tag) (tag_number UNH) q))
    to true true true false p q r s e = no_unt (eqb-true k n r) (λ z. eqb-false (tag_number g.tag) (tag_number UNT) s (ap tag_number z))
    to true true false true p q r s e = another_unt (eqb-false k n r) (one_tag g.tag UNT v valid_unt (eqb-true (tag_number g.tag) (tag_number UNT) s))
    to true true true true p q r s e = absurd (false≢true e)
    to true true false false p q r s e = absurd (false≢true e)
    to false false true false p q r s e = no_unt (eqb-true k n r) (λ z. eqb-false (tag_number g.tag) (tag_number UNT) s (ap tag_number z))
    to false false false true p q r s e = another_unt (eqb-false k n r) (one_tag g.tag UNT v valid_unt (eqb-true (tag_number g.tag) (tag_number UNT) s))
    to false false true true p q r s e = absurd (false≢true e)
    to false false false false p q r s e = absurd (false≢true e)

    by_unt : (c d x : Bool) → eqb k n ≡ c → eqb (tag_number g.tag) (tag_number UNT) ≡ d → cond c (not d) d ≡ true
        → (x || cond (eqb k n) (not (eqb (tag_number g.tag) (tag_number UNT))) (eqb (tag_number g.tag) (tag_number UNT))) ≡ true
    by_unt c d x p q e = ap (λ (y : Bool). x || y) (ap₂ (λ (i j : Bool). cond i (not j) j) p q ∙ e) ∙ or-true x

    from : Misplaced n k g → is_misplaced n k (tag_number g.tag) ≡ true
    from (no_unh e f) = rw (eq-eqb k 1 e, ne_eqb (tag_number g.tag) (tag_number UNH) (λ z. f (one_tag g.tag UNH v valid_unh z)))
    from (another_unh f e) = rw (ne_eqb k 1 f, eq-eqb (tag_number g.tag) (tag_number UNH) (ap tag_number e))
    from (no_unt e f) = by_unt true false (cond (eqb k 1) (not (eqb (tag_number g.tag) (tag_number UNH))) (eqb (tag_number g.tag) (tag_number UNH))) (eq-eqb k n e) (ne_eqb (tag_number g.tag) (tag_number UNT) (λ z. f (one_tag g.tag UNT v valid_unt z))) refl
    from (another_unt f e) = by_unt false true (cond (eqb k 1) (not (eqb (tag_number g.tag) (tag_number UNH))) (eqb (tag_number g.tag) (tag_number UNH))) (ne_eqb k n f) (eq-eqb (tag_number g.tag) (tag_number UNT) (ap tag_number e)) refl

-- ---- numbers 8 and 9

digits_words : (bs : List ℕ) → All (λ b. is_digit b ≡ true) bs → All IsWord bs
digits_words = all_map (λ b. is_digit b ≡ true) IsWord digit_word

pub one_last : (m : Message) (x y : Segment) → IsLast m x → IsLast m y → x ≡ y
one_last [] x y a b = absurd a
one_last (g ∷ []) x y a b = sym a ∙ b
one_last (g ∷ h ∷ gs) x y a b = one_last (h ∷ gs) x y a b

module _ (s : Service) (service : GoodService s) where
  -- digits are written as they are
  plain : (v : Component) → All (λ b. is_digit b ≡ true) v → write_component s v [] ≡ v
  plain v a = word_written s service v [] (digits_words v a) ∙ append-nil v

  -- so a decimal can be told by what is written
  pub decimal_written : (n : ℕ) (v : Component) → (is_decimal n (write_component s v []) ≡ true) ↔ InDecimal n v
  decimal_written n v = (to, λ d. ap (is_decimal n) (plain v d.digits) ∙ (decimal n v).1 d)
    where
      to : is_decimal n (write_component s v []) ≡ true → InDecimal n v
      to e =
          let d = (decimal n (write_component s v [])).0 e in
          subst (InDecimal n) ((raw_is_value s (write_component s v []) v).0 (plain (write_component s v []) d.digits)) d

  module _ (bs : List ℕ) where
    pub count_exactly : (m : Message) (last : Segment) (at : ℕ) → IsLast m last → SegmentAt s bs at last → (is_decimal (length m) (component_at s bs at 1 1) ≡ true) ↔ TellsCount m
    count_exactly m last at i there = (to, from)
      where
        written : component_at s bs at 1 1 ≡ write_component s (value_at last 1 1) []
        written = part_is_value s service bs at 1 1 last there

        to : is_decimal (length m) (component_at s bs at 1 1) ≡ true → TellsCount m
        to e unt j =
            subst (λ (x : Segment). InDecimal (length m) (value_at x 1 1)) (one_last m last unt i j)
            ((decimal_written (length m) (value_at last 1 1)).0 (sym (ap (is_decimal (length m)) written) ∙ e))

        from : TellsCount m → is_decimal (length m) (component_at s bs at 1 1) ≡ true
        from t = ap (is_decimal (length m)) written ∙ (decimal_written (length m) (value_at last 1 1)).1 (t last i)

    pub reference_exactly : (m : Message) (first last : Segment) (at : ℕ) → IsFirst m first → SegmentAt s bs 0 first → IsLast m last → SegmentAt s bs at last
        → (same_component (component_at s bs at 2 1) (component_at s bs 0 1 1) ≡ true) ↔ TellsReference m
    reference_exactly [] first last at f here i there = absurd f
    reference_exactly (g ∷ gs) first last at f here i there = (
      λ e unh unt a b.
          subst (λ (x : Segment). value_at x 2 1 ≡ value_at unh 1 1) (one_last (g ∷ gs) last unt i b)
          (subst (λ (x : Segment). value_at last 2 1 ≡ value_at x 1 1) (sym f ∙ a) ((same_part s service bs at 2 1 last bs 0 1 1 first there here).0 e)),
      λ t. (same_part s service bs at 2 1 last bs 0 1 1 first there here).1 (t first last f i),
    )

  -- ---- the frame, over a message of which `before` has been passed

  module _ (n : ℕ) where
    -- where the last segment starts: that of those that are left, if there are any
    abbrev pub LastAt : List ℕ → ℕ → Message → ℕ → Type 0
    LastAt bs last [] at = at ≡ last
    LastAt bs last (g ∷ gs) at = (x : Segment) × IsLast (g ∷ gs) x × SegmentAt s bs at x

    pub data Framed (bs : List ℕ) (k last : ℕ) (m : Message) : Frame → Type 0 where
      wrong : (p : ℕ) → FirstWrong (Misplaced n) k m p → Framed bs k last m (Err (refusal.Misplaced p))
      right : (at : ℕ) → NoneWrong (Misplaced n) k m → LastAt bs last m at → Framed bs k last m (Ok at)

    later_last : (bs : List ℕ) (g : Segment) (gs : Message) (last at : ℕ) → SegmentAt s bs last g → LastAt bs last gs at → LastAt bs last (g ∷ gs) at
    later_last bs g [] last at i e = (g, refl, subst (λ (x : ℕ). SegmentAt s bs x g) (sym e) i)
    later_last bs g (h ∷ gs) last at i (x, l, there) = (x, l, there)

    frame_step : (bs : List ℕ) (k last next : ℕ) (g : Segment) (gs : Message) (v : Bool) (f : Frame) → ((v ≡ true) ↔ Misplaced n (suc k) g) → SegmentAt s bs next g
        → Framed bs (suc k) next gs f → Framed bs k last (g ∷ gs) (cond v (Err (refusal.Misplaced (suc k))) f)
    frame_step bs k last next g gs true f m i r = wrong (suc k) (inl (m.0 refl, refl))
    frame_step bs k last next g gs false f m i (wrong p w) = wrong p (inr (λ h. false≢true (m.1 h), w))
    frame_step bs k last next g gs false f m i (right at w l) = right at (λ h. false≢true (m.1 h), w) (later_last bs g gs next at i l)

    frame_found : (m before : Message) (k last : ℕ) → length before ≡ k → All ValidSegment m
        → Framed (render s (before ++ m)) k last m (frame_from (render s (before ++ m)) n k last (starts_in s before m))
    unfolding frame_from starts_in
    frame_found [] before k last e v = right last tt refl
    frame_found (g ∷ gs) before k last e v =
        let there = written_at s service before g gs v.0 in
        let tag = tag_of_segment s (render s (before ++ (g ∷ gs))) (length (render s before)) g there in
        let same = append_assoc before (g ∷ []) gs in
        frame_step (render s (before ++ (g ∷ gs))) k last (length (render s before)) g gs
        (is_misplaced n (suc k) (tag_at (render s (before ++ (g ∷ gs))) (length (render s before))))
        (frame_from (render s (before ++ (g ∷ gs))) n (suc k) (length (render s before)) (starts_in s (before ++ (g ∷ [])) gs))
        (subst (λ (x : ℕ). (is_misplaced n (suc k) x ≡ true) ↔ Misplaced n (suc k) g) (sym tag) (misplaced_exactly n (suc k) g v.0.tag))
        there
        (subst (λ (x : Message). Framed (render s x) (suc k) (length (render s before)) gs (frame_from (render s x) n (suc k) (length (render s before)) (starts_in s (before ++ (g ∷ [])) gs)))
        same
        (frame_found gs (before ++ (g ∷ [])) (suc k) (length (render s before)) (length-append before (g ∷ []) ∙ omega arith) v.1))

  -- of a whole message
  pub frame_says : (bs : List ℕ) (w : WellFormed s bs) → Framed (length w.message) bs 0 0 w.message (frame_of s bs (length w.message))
  unfolding write_segments
  frame_says bs w =
      subst (λ (xs : List ℕ). Framed (length w.message) bs 0 0 w.message (frame_from bs (length w.message) 0 0 xs)) (sym (found_starts s service bs w))
      (subst (λ (xs : List ℕ). Framed (length w.message) xs 0 0 w.message (frame_from xs (length w.message) 0 0 (starts_of s w.message))) (sym w.same)
      (frame_found (length w.message) w.message [] 0 0 refl w.valid.segments))
