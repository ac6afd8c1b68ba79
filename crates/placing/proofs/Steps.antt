-- The steps of the functions over a walk, one law for each way through.
use Prim.Native.Nat.{ℕ, zero, suc, ◌+◌, ◌-◌, ◌≤◌, ◌<◌, pred}
use native.Mathlib.Omega.{arith}
use native.Mathlib.Numerals.{add-one}
use mathlib.Core.Path.{◌≡◌, refl, sym, ap, ap₂, ◌∙◌}
use mathlib.Core.List.{List, [], ◌∷◌, ◌++◌}
use mathlib.Core.Bool.{Bool, true, false, false≢true, cond, ◌&&◌, and-false}
use lib.Dec.{ltb, leb}
use lib.ListN.{length, get_or, take, drop, set, drop_of_length-le}
use lib.Seq.{drop-cons, set_out}
use borrow.Author.Tests.{lt-ltb, le-ltb, eq-eqb, le-leb, ltb-true}
use Rattle.reading.proofs.Booleans.{left, right}
use Rattle.placing.specs.declared.walk.Level.{Level}
use Rattle.guide.specs.meaning.Plan.{Plan, is_trigger}
use Rattle.guide.specs.method.Targets.{target}
use Rattle.placing.specs.method.Walking.{SegmentLine, admits, advanced, can_close, can_close_all, can_move, entered, is_clear, is_placeable, level, raised, stacked}
use Rattle.placing.specs.method.Tree.{opened_by}

module _ (b : Plan) where
  -- can_close
  pub close_last : (d : ℕ) (v : Level) (lines : ℕ) → lines ≡ b.lines → lines ≤ v.line → leb lines v.line ≡ can_close b d v
  unfolding is_clear
  close_last d v lines e h = let z : b.lines - v.line ≡ 0 = omega arith in le-leb lines v.line h ∙ sym (ap (is_clear b d (suc v.line)) z)

  -- can_move
  pub move_same : (v : Level) (t m : ℕ) → v.line ≡ t → m ≡ b.maximum t → ltb v.count m ≡ can_move b v t
  move_same v t m e f = ap (ltb v.count) f ∙ sym (simp (eq-eqb v.line t e))

  -- can_close_all
  shut_cons : (d : ℕ) (v : Level) (vs : List Level) → can_close_all b d (v ∷ vs) ≡ (can_close b d v && can_close_all b (suc d) vs)
  unfolding can_close_all
  shut_cons d v vs = refl

  pub shut_step : (vs xs : List Level) (j : ℕ) (r : Bool) → xs ≡ vs → j < length vs → r ≡ can_close b j (get_or xs j (level 0 0))
      → can_close_all b j (drop j vs) ≡ (r && can_close_all b (j + 1) (drop (j + 1) vs))
  shut_step vs xs j r e i h =
      ap (can_close_all b j) (drop-cons vs j (level 0 0) i) ∙ shut_cons j (get_or vs j (level 0 0)) (drop (suc j) vs)
      ∙ ap (λ (v : Bool). v && can_close_all b (suc j) (drop (suc j) vs)) (sym (h ∙ ap (λ (ys : List Level). can_close b j (get_or ys j (level 0 0))) e))
      ∙ ap (λ (k : ℕ). r && can_close_all b k (drop k vs)) (sym (add-one j))

  pub shut_end : (vs : List Level) (j : ℕ) → length vs ≤ j → can_close_all b j (drop j vs) ≡ true
  unfolding can_close_all
  shut_end vs j i = ap (can_close_all b j) (drop_of_length-le vs {i = j} i)

  -- admits
  module _ (vs : List Level) (t d : ℕ) (e : d ≡ b.depth t) where
    admits_is : admits b vs t ≡ (ltb d (length vs) && (can_move b (get_or vs d (level 0 0)) t && can_close_all b (d + 1) (drop (d + 1) vs)))
    unfolding admits
    admits_is =
        ap (λ (x : ℕ). ltb x (length vs) && (can_move b (get_or vs x (level 0 0)) t && can_close_all b (suc x) (drop (suc x) vs))) (sym e)
        ∙ ap (λ (k : ℕ). ltb d (length vs) && (can_move b (get_or vs d (level 0 0)) t && can_close_all b k (drop k vs))) (sym (add-one d))

    pub admits_high : length vs ≤ d → admits b vs t ≡ false
    admits_high i = admits_is ∙ ap (λ (x : Bool). x && (can_move b (get_or vs d (level 0 0)) t && can_close_all b (d + 1) (drop (d + 1) vs))) (le-ltb d (length vs) i)

    pub admits_low : (xs : List Level) (m : Bool) → xs ≡ vs → d < length vs → m ≡ can_move b (get_or xs d (level 0 0)) t
        → admits b vs t ≡ (m && can_close_all b (d + 1) (drop (d + 1) vs))
    admits_low xs m same i h =
        admits_is ∙ ap (λ (x : Bool). x && (can_move b (get_or vs d (level 0 0)) t && can_close_all b (d + 1) (drop (d + 1) vs))) (lt-ltb d (length vs) i)
        ∙ ap (λ (x : Bool). x && can_close_all b (d + 1) (drop (d + 1) vs)) (sym (h ∙ ap (λ (ys : List Level). can_move b (get_or ys d (level 0 0)) t) same))

    -- an admitted line has an open line of its depth, which has not come up to its maximum where it is that line
    pub admits_open : admits b vs t ≡ true → d < length vs
    admits_open h = ltb-true d (length vs) (left (ltb d (length vs)) _ (sym admits_is ∙ h))

    pub admits_room : (v : Level) → v ≡ get_or vs d (level 0 0) → admits b vs t ≡ true → v.line ≡ t → v.count < b.maximum t
    admits_room v g h same =
        ltb-true v.count (b.maximum t)
        (move_same v t (b.maximum t) same refl ∙ ap (λ (x : Level). can_move b x t) g
        ∙ left (can_move b (get_or vs d (level 0 0)) t) _ (right (ltb d (length vs)) _ (sym admits_is ∙ h)))

    pub stacked_is : (xs : List Level) (u : Level) → xs ≡ vs → u ≡ raised (get_or xs d (level 0 0)) t → take d vs ++ (u ∷ []) ≡ stacked (b.depth t) vs t
    unfolding stacked
    stacked_is xs u same h =
        ap (λ (x : Level). take d vs ++ (x ∷ [])) (h ∙ ap (λ (ys : List Level). raised (get_or ys d (level 0 0)) t) same)
        ∙ ap (λ (x : ℕ). take x vs ++ (raised (get_or vs x (level 0 0)) t ∷ [])) e

  -- advance: a segment line is placeable where its place lies within the eight depths
  module _ (l t d k : ℕ) (o : Bool) (line : SegmentLine b l) (et : t ≡ target b l) (ed : d ≡ b.depth t) (eo : o ≡ is_trigger b l) (ek : k ≡ cond o 7 8) where
    placeable : ltb d k ≡ is_placeable b l
    unfolding is_placeable
    placeable =
        ap₂ ltb (ed ∙ ap b.depth et) (ek ∙ ap (λ (x : Bool). cond x 7 8) eo)
        ∙ sym (simp (lt-ltb 0 l line.some, le-leb l b.lines line.within, line.segment))

    pub advance_deep : (vs : List Level) → k ≤ d → [] ≡ advanced b vs l
    unfolding advanced
    advance_deep vs i = sym (simp (sym placeable ∙ le-ltb d k i))

    pub advance_no : (vs : List Level) → admits b vs t ≡ false → [] ≡ advanced b vs l
    unfolding advanced
    advance_no vs f = sym (simp (ap (admits b vs) (sym et) ∙ f, and-false))

    pub advance_yes : (vs xs us : List Level) (u : Level) → d < k → admits b vs t ≡ true → xs ≡ vs → u ≡ raised (get_or xs d (level 0 0)) t
        → us ≡ (take d vs ++ (u ∷ [])) ++ entered o l → us ≡ advanced b vs l
    unfolding advanced
    advance_yes vs xs us u i f same r h =
        h ∙ ap (λ (ys : List Level). ys ++ entered o l) (stacked_is vs t d ed xs u same r)
        ∙ ap₂ (λ (x : ℕ) (y : Bool). stacked (b.depth x) vs x ++ entered y l) et eo
        ∙ sym (simp (sym placeable ∙ lt-ltb d k i, ap (admits b vs) (sym et) ∙ f))

  -- target_of
  pub trigger_high : (l : ℕ) → is_trigger b l ≡ true → 1 ≤ l
  trigger_high zero e = absurd (false≢true e)
  trigger_high (suc l) e = omega arith

  pub target_group : (l : ℕ) → is_trigger b l ≡ true → l - 1 ≡ target b l
  unfolding target
  target_group l e = let z : l - 1 ≡ pred l = omega arith in z ∙ sym (simp e)

  pub target_self : (l : ℕ) → is_trigger b l ≡ false → l ≡ target b l
  unfolding target
  target_self l e = sym (simp e)

  -- the trail
  pub open_not : (trail : List ℕ) (h n : ℕ) → is_trigger b h ≡ false → trail ≡ opened_by b trail h n
  unfolding opened_by
  open_not trail h n e = sym (simp e)

  pub open_here : (trail : List ℕ) (h n d : ℕ) → is_trigger b h ≡ true → d ≡ b.depth (target b h) → set trail (d + 1) n ≡ opened_by b trail h n
  unfolding opened_by
  open_here trail h n d e k = ap (λ (x : ℕ). set trail x n) (add-one d ∙ ap suc k) ∙ sym (simp e)

  pub open_too_deep : (trail : List ℕ) (h n d : ℕ) → d ≡ b.depth (target b h) → length trail ≤ d + 1 → trail ≡ opened_by b trail h n
  unfolding opened_by
  open_too_deep trail h n d k i = sym (ap (λ (x : List ℕ). cond (is_trigger b h) x trail) (set_out trail (suc (b.depth (target b h))) n (omega arith)) ∙ either (is_trigger b h))
    where
      either : (o : Bool) → cond o trail trail ≡ trail
      either true = refl
      either false = refl
