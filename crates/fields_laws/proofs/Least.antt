-- The pass over components and fields finds the least fault: it goes from place to place, and at each one it either answers a fault
-- or knows that there is none before the next place that it comes to.
use Prim.Native.Nat.{ℕ, zero, suc, ◌≤◌}
use native.Mathlib.Omega.{arith}
use native.Mathlib.Decide.{dec_lt}
use mathlib.Core.Path.{◌≡◌, refl, sym, ap, ◌∙◌, subst}
use mathlib.Core.List.{List, [], ◌∷◌, map}
use mathlib.Core.Bool.{Bool, true, false, cond, true≢false, false≢true, ◌&&◌, ◌||◌}
use mathlib.Core.Logic.{dite}
use lib.Dec.{eqb}
use borrow.Author.Tests.{eqb-true, eqb-false}
use Rattle.guide.specs.meaning.Guide.{Guide}
use Rattle.guide.specs.meaning.View.{Field, field_of}
use Rattle.reading.specs.declared.service.Service.{Service}
use Rattle.fields.specs.meaning.Fields.{Values, In, HasBytes, Faulty, Before, at_fault}
use Rattle.fields.specs.meaning.Fields.In.{here, there}
use Rattle.fields.specs.meaning.Fields.Faulty.{named, unnamed}
use Rattle.fields.specs.meaning.Fields.Before.{sooner, beside}
use Rattle.fields.specs.method.Parts.{Raw, has_bytes, any_bytes}
use Rattle.fields.specs.method.Testing.{is_missing, is_broken, Tested, broken, kept, then_test, test_component, test_absent, test_components, then_fault, test_rest, test_elements}
use Rattle.std.specs.Prelude.{Result}
use Rattle.fields.specs.declared.fault.Fault.{Fault}
use Rattle.fields_laws.proofs.Pieces.{raw_of}
use Rattle.fields_laws.proofs.Broken.{raw_has, raw_empty, Known, Tests, broken_none}
use Rattle.fields_laws.proofs.Places.{From, later, along, from_trans, before_trans, before_not, before_from, weaker, from_next, from_element, rest_of_element, nothing_in, Ahead, Rises, numbered, LeastFrom, skip, clean_from, faulty_here, clear_here, passed, calm, first_kept}

module _ (s : Service) (g : Guide) (v : Values) where
  -- the fields of these numbers
  abbrev pub of : List ℕ → List Field
  of fs = map (field_of g) fs

  abbrev pub AllTest : List ℕ → Type 0
  AllTest [] = Unit {0}
  AllTest (f ∷ fs) = Tests s g v f × AllTest fs

  -- what is known of the fields that are left, where the pass stands at e, c
  pub record Left (fs : List ℕ) (e c : ℕ) : Type 0 where
    pub rises : Rises (of fs)
    pub tested : AllTest fs
    pub ahead : Ahead e c (of fs)

  left_none : (e c : ℕ) → Left [] e c
  left_none e c = record { rises = tt; tested = tt; ahead = λ h i. absurd (nothing_in i) }

  -- all stand from where the first does
  first_ahead : (f : ℕ) (fs : List ℕ) (e c : ℕ) → Rises (of (f ∷ fs)) → From e c (g.element f) (g.component f) → Ahead e c (of (f ∷ fs))
  first_ahead f fs e c r k h i = go h i
    where
      go : (h : Field) → In h (of (f ∷ fs)) → From e c h.element h.component
      go h here = k
      go h (there j) = from_trans _ _ _ _ _ _ k (weaker _ _ _ _ (r.2 h j))

  -- the fields behind the first, once it is passed
  left_rest : (f : ℕ) (fs : List ℕ) (e c : ℕ) → Left (f ∷ fs) e c → Left fs (g.element f) (suc (g.component f))
  left_rest f fs e c l =
      record { rises = l.rises.3; tested = l.tested.1; ahead = λ h i. before_from _ _ _ _ (l.rises.2 h i) }

  -- ---- one place

  -- a component that no field names
  unmatched : (fs : List ℕ) (e c : ℕ) (x : Raw) (r : Result (Unit {0}) Fault) → Ahead e (suc c) (of fs) → x ≡ raw_of s (v e c) → LeastFrom s v (of fs) e (suc c) r
      → LeastFrom s v (of fs) e c (cond (has_bytes x) (at_fault e c) r)
  unmatched fs e c x r a z l = go (has_bytes x) refl
    where
      ahead : (h : Field) → In h (of fs) → Before e c h.element h.component
      ahead h i = before_trans e c e (suc c) _ _ (beside refl (omega arith)) (a h i)

      go : (t : Bool) → has_bytes x ≡ t → LeastFrom s v (of fs) e c (cond t (at_fault e c) r)
      go true h =
          faulty_here s v (of fs) e c
          (unnamed (λ f i p q. before_not e c _ _ (ahead f i) p q) (raw_has s (v e c) (ap has_bytes (sym z) ∙ h)))
      go false h = clear_here s v (of fs) e c r (calm s v (of fs) e c (raw_empty s (v e c) (ap has_bytes (sym z) ∙ h)) ahead) l

  -- the place of the first field
  matched : (f : ℕ) (fs : List ℕ) (e c : ℕ) (x : Raw) (some : Bool) (r : Result (Unit {0}) Fault) → Rises (of (f ∷ fs)) → Tests s g v f → g.element f ≡ e → g.component f ≡ c
      → x ≡ raw_of s (v e c) → Known v e some → LeastFrom s v (of fs) e (suc c) r → LeastFrom s v (of (f ∷ fs)) e c (cond (is_broken s g some f x) (at_fault e c) r)
  matched f fs e c x some r rise test p q z k l = go (is_broken s g some f x) refl
    where
      same : x ≡ raw_of s (v (g.element f) (g.component f))
      same = z ∙ ap (λ (w : ℕ). raw_of s (v w c)) (sym p) ∙ ap (λ (w : ℕ). raw_of s (v (g.element f) w)) (sym q)

      known : Known v (g.element f) some
      known = subst (λ (w : ℕ). Known v w some) (sym p) k

      to : Faulty s (of (f ∷ fs)) v (g.element f) (g.component f) → Faulty s (of (f ∷ fs)) v e c
      to y = subst (λ (w : ℕ). Faulty s (of (f ∷ fs)) v e w) q (subst (λ (w : ℕ). Faulty s (of (f ∷ fs)) v w (g.component f)) p y)

      back : Faulty s (of (f ∷ fs)) v e c → Faulty s (of (f ∷ fs)) v (g.element f) (g.component f)
      back y = subst (λ (w : ℕ). Faulty s (of (f ∷ fs)) v w (g.component f)) (sym p) (subst (λ (w : ℕ). Faulty s (of (f ∷ fs)) v e w) (sym q) y)

      go : (t : Bool) → is_broken s g some f x ≡ t → LeastFrom s v (of (f ∷ fs)) e c (cond t (at_fault e c) r)
      go true h =
          faulty_here s v (of (f ∷ fs)) e c
          (to (named (field_of g f) here refl refl (test.breaks some known (ap (is_broken s g some f) (sym same) ∙ h))))
      go false h =
          clear_here s v (of (f ∷ fs)) e c r
          (λ y. first_kept s v (field_of g f) (of fs) rise (test.keeps some known (ap (is_broken s g some f) (sym same) ∙ h)) (back y))
          (passed s v (field_of g f) (of fs) e (suc c) r (beside p (omega arith)) l)

  -- ---- over empty places

  -- to the next element, where the rest of this one is empty and has no field
  pub end_element : (fs : List ℕ) (e c : ℕ) (r : Result (Unit {0}) Fault) → Ahead (suc e) 0 (of fs) → ((y : ℕ) → c ≤ y → v e y ≡ []) → LeastFrom s v (of fs) (suc e) 0 r
      → LeastFrom s v (of fs) e c r
  end_element fs e c r a z l = skip s v (of fs) e c (suc e) 0 r (later (omega arith)) clear l
    where
      clear : (x y : ℕ) → From e c x y → Before x y (suc e) 0 → Faulty s (of fs) v x y → ⊥
      clear x y i j =
          let o = rest_of_element e c x y i j in
          calm s v (of fs) x y (ap (λ (w : ℕ). v w y) o.0 ∙ z y o.1) (λ h m. before_trans x y (suc e) 0 _ _ j (a h m))

  -- to the first field
  to_first : (f : ℕ) (fs : List ℕ) (e c : ℕ) (r : Result (Unit {0}) Fault) → Left (f ∷ fs) e c
      → ((x y : ℕ) → From e c x y → Before x y (g.element f) (g.component f) → v x y ≡ [])
      → LeastFrom s v (of (f ∷ fs)) (g.element f) (g.component f) r → LeastFrom s v (of (f ∷ fs)) e c r
  to_first f fs e c r left z l = skip s v (of (f ∷ fs)) e c (g.element f) (g.component f) r (left.ahead (field_of g f) here) clear l
    where
      clear : (x y : ℕ) → From e c x y → Before x y (g.element f) (g.component f) → Faulty s (of (f ∷ fs)) v x y → ⊥
      clear x y i j =
          calm s v (of (f ∷ fs)) x y (z x y i j)
          (λ h m. before_trans x y _ _ _ _ j (first_ahead f fs (g.element f) (g.component f) left.rises (along refl (omega arith)) h m))

  -- ---- an element

  -- its components from c on are these, as they are written
  abbrev pub Components : ℕ → ℕ → List Raw → Type 0
  Components e c [] = (y : ℕ) → c ≤ y → v e y ≡ []
  Components e c (x ∷ xs) = (x ≡ raw_of s (v e c)) × Components e (suc c) xs

  then_kept : (e c : ℕ) (t : Bool) (fs : List ℕ) (on : List ℕ → Tested) (more : List ℕ → Result (Unit {0}) Fault)
      → then_fault e (then_test (cond t (broken c) (kept fs)) on) more ≡ cond t (at_fault e c) (then_fault e (on fs) more)
  then_kept e c true fs on more = refl
  then_kept e c false fs on more = refl

  module _ (some : Bool) (e : ℕ) (known : Known v e some) (more : List ℕ → Result (Unit {0}) Fault)
      (further : (fs : List ℕ) → Left fs (suc e) 0 → LeastFrom s v (of fs) (suc e) 0 (more fs)) where
    absent_least : (fs : List ℕ) (c : ℕ) → Left fs e c → ((y : ℕ) → c ≤ y → v e y ≡ []) → LeastFrom s v (of fs) e c (then_fault e (test_absent g some e fs) more)
    unfolding test_absent
    absent_least [] c l z = end_element [] e c (more []) (λ h i. absurd (nothing_in i)) z (further [] (left_none (suc e) 0))
    absent_least (f ∷ fs) c l z = go (eqb (g.element f) e) refl (λ d k y. absent_least fs d k y)
      where
        between : (x y : ℕ) → g.element f ≡ e → From e c x y → Before x y (g.element f) (g.component f) → v x y ≡ []
        between x y p (later i) (sooner j) = absurd (omega arith)
        between x y p (later i) (beside j k) = absurd (omega arith)
        between x y p (along i m) (sooner j) = absurd (omega arith)
        between x y p (along i m) (beside j k) = ap (λ (w : ℕ). v w y) (sym i) ∙ z y m

        far : g.element f ≡ e → From e c (g.element f) (g.component f) → c ≤ g.component f
        far p (later i) = absurd (omega arith)
        far p (along i m) = m

        missing : (t : Bool) → is_missing g some f ≡ t
            → LeastFrom s v (of (f ∷ fs)) (g.element f) (g.component f) (cond (is_broken s g some f (raw_of s [])) (at_fault e (g.component f)) (then_fault e (test_absent g some e fs) more))
            → LeastFrom s v (of (f ∷ fs)) (g.element f) (g.component f) (then_fault e (cond t (broken (g.component f)) (test_absent g some e fs)) more)
        missing t h k = by t (subst (λ (u : Bool). LeastFrom s v (of (f ∷ fs)) (g.element f) (g.component f) (cond u (at_fault e (g.component f)) (then_fault e (test_absent g some e fs) more))) (broken_none s g some f ∙ h) k)
          where
            by : (u : Bool) → LeastFrom s v (of (f ∷ fs)) (g.element f) (g.component f) (cond u (at_fault e (g.component f)) (then_fault e (test_absent g some e fs) more))
                → LeastFrom s v (of (f ∷ fs)) (g.element f) (g.component f) (then_fault e (cond u (broken (g.component f)) (test_absent g some e fs)) more)
            by true k = k
            by false k = k

        go : (t : Bool) → eqb (g.element f) e ≡ t
            → ((d : ℕ) → Left fs e d → ((y : ℕ) → d ≤ y → v e y ≡ []) → LeastFrom s v (of fs) e d (then_fault e (test_absent g some e fs) more))
            → LeastFrom s v (of (f ∷ fs)) e c (then_fault e (cond t (cond (is_missing g some f) (broken (g.component f)) (test_absent g some e fs)) (kept (f ∷ fs))) more)
        go true h again =
            let p = eqb-true _ _ h in
            let m = far p (l.ahead (field_of g f) here) in
            to_first f fs e c _ l (λ x y. between x y p)
            (missing (is_missing g some f) refl
            (subst (λ (w : ℕ). LeastFrom s v (of (f ∷ fs)) w (g.component f) (cond (is_broken s g some f (raw_of s [])) (at_fault e (g.component f)) (then_fault e (test_absent g some e fs) more))) (sym p)
            (matched f fs e (g.component f) (raw_of s []) some _ l.rises l.tested.0 p refl (ap (raw_of s) (sym (z (g.component f) m))) known
            (again (suc (g.component f)) (subst (λ (w : ℕ). Left fs w (suc (g.component f))) p (left_rest f fs e c l)) (λ y n. z y (omega arith))))))
        go false h again =
            let a : Ahead (suc e) 0 (of (f ∷ fs)) = first_ahead f fs (suc e) 0 l.rises (from_element e c _ _ (l.ahead (field_of g f) here) (eqb-false _ _ h)) in
            end_element (f ∷ fs) e c _ a z (further (f ∷ fs) (record { rises = l.rises; tested = l.tested; ahead = a }))

    components_least : (xs : List Raw) (fs : List ℕ) (c : ℕ) → Components e c xs → Left fs e c
        → LeastFrom s v (of fs) e c (then_fault e (test_components s g some e c xs fs) more)
    unfolding test_components test_component
    components_least [] fs c z l = absent_least fs c l z
    components_least (x ∷ xs) [] c z l =
        subst (LeastFrom s v (of []) e c) (sym (then_kept e c (has_bytes x) [] (test_components s g some e (suc c) xs) more))
        (unmatched [] e c x _ (λ h i. absurd (nothing_in i)) z.0 (components_least xs [] (suc c) z.1 (left_none e (suc c))))
    components_least (x ∷ xs) (f ∷ fs) c z l =
        go (eqb (g.element f) e) (eqb (g.component f) c) refl refl (λ hs. components_least xs hs (suc c) z.1)
      where
        apart : ((hs : List ℕ) → Left hs e (suc c) → LeastFrom s v (of hs) e (suc c) (then_fault e (test_components s g some e (suc c) xs hs) more))
            → (g.element f ≡ e → g.component f ≡ c → ⊥)
            → LeastFrom s v (of (f ∷ fs)) e c (then_fault e (then_test (cond (has_bytes x) (broken c) (kept (f ∷ fs))) (test_components s g some e (suc c) xs)) more)
        apart again n =
            let a : Ahead e (suc c) (of (f ∷ fs)) = first_ahead f fs e (suc c) l.rises (from_next e c _ _ (l.ahead (field_of g f) here) n) in
            subst (LeastFrom s v (of (f ∷ fs)) e c) (sym (then_kept e c (has_bytes x) (f ∷ fs) (test_components s g some e (suc c) xs) more))
            (unmatched (f ∷ fs) e c x _ a z.0 (again (f ∷ fs) (record { rises = l.rises; tested = l.tested; ahead = a })))

        go : (t u : Bool) → eqb (g.element f) e ≡ t → eqb (g.component f) c ≡ u
            → ((hs : List ℕ) → Left hs e (suc c) → LeastFrom s v (of hs) e (suc c) (then_fault e (test_components s g some e (suc c) xs hs) more))
            → LeastFrom s v (of (f ∷ fs)) e c
            (then_fault e (then_test (cond (t && u) (cond (is_broken s g some f x) (broken c) (kept fs)) (cond (has_bytes x) (broken c) (kept (f ∷ fs)))) (test_components s g some e (suc c) xs)) more)
        go true true h i again =
            let p = eqb-true _ _ h in
            let q = eqb-true _ _ i in
            let k : Left fs e (suc c) = subst (λ (w : ℕ). Left fs e (suc w)) q (subst (λ (w : ℕ). Left fs w (suc (g.component f))) p (left_rest f fs e c l)) in
            subst (LeastFrom s v (of (f ∷ fs)) e c) (sym (then_kept e c (is_broken s g some f x) fs (test_components s g some e (suc c) xs) more))
            (matched f fs e c x some _ l.rises l.tested.0 p q z.0 known (again fs k))
        go true false h i again = apart again (λ p q. eqb-false _ _ i q)
        go false true h i again = apart again (λ p q. eqb-false _ _ h p)
        go false false h i again = apart again (λ p q. eqb-false _ _ h p)

  -- ---- is it known whether an element has bytes? Its components tell

  some_has : (e c : ℕ) (xs : List Raw) → Components e c xs → any_bytes xs ≡ true → (y : ℕ) × HasBytes (v e y)
  unfolding any_bytes
  some_has e c [] z h = absurd (false≢true h)
  some_has e c (x ∷ xs) z h = go (has_bytes x) refl h (some_has e (suc c) xs z.1)
    where
      go : (t : Bool) → has_bytes x ≡ t → (t || any_bytes xs) ≡ true → (any_bytes xs ≡ true → (y : ℕ) × HasBytes (v e y)) → (y : ℕ) × HasBytes (v e y)
      go true i h on = (c, raw_has s (v e c) (ap has_bytes (sym z.0) ∙ i))
      go false i h on = on h

  none_has : (e c : ℕ) (xs : List Raw) → Components e c xs → any_bytes xs ≡ false → (y : ℕ) → c ≤ y → v e y ≡ []
  unfolding any_bytes
  none_has e c [] z h y l = z y l
  none_has e c (x ∷ xs) z h y l = go (has_bytes x) refl h (none_has e (suc c) xs z.1)
    where
      go : (t : Bool) → has_bytes x ≡ t → (t || any_bytes xs) ≡ false → (any_bytes xs ≡ false → (y : ℕ) → suc c ≤ y → v e y ≡ []) → v e y ≡ []
      go true i h on = absurd (true≢false h)
      go false i h on =
          dite (dec_lt c y) (λ k. on h y k)
          (λ k. let same : c ≡ y = omega arith in ap (v e) (sym same) ∙ raw_empty s (v e c) (ap has_bytes (sym z.0) ∙ i))

  known_of : (e : ℕ) (xs : List Raw) → v e 0 ≡ [] → Components e 1 xs → Known v e (any_bytes xs)
  known_of e xs o z = record { has = some_has e 1 xs z; lacks = λ h y. go h y }
    where
      go : any_bytes xs ≡ false → (y : ℕ) → v e y ≡ []
      go h zero = o
      go h (suc y) = none_has e 1 xs z h (suc y) (omega arith)

  -- ---- the elements

  -- the elements from e on are these
  abbrev pub Elements : ℕ → List (List Raw) → Type 0
  Elements e [] = (x y : ℕ) → e ≤ x → v x y ≡ []
  Elements e (x ∷ xs) = (v e 0 ≡ []) × Components e 1 x × Elements (suc e) xs

  reaches : {e c x y : ℕ} → From e c x y → e ≤ x
  reaches (later h) = omega arith
  reaches (along h i) = omega arith

  rest_least : (fs : List ℕ) (n e c : ℕ) → n ≤ e → Left fs e c → ((x y : ℕ) → n ≤ x → v x y ≡ []) → LeastFrom s v (of fs) e c (test_rest g fs)
  unfolding test_rest
  rest_least [] n e c m l z = clean_from s v [] e c (λ x y i. calm s v [] x y (z x y (let r = reaches i in omega arith)) (λ h j. absurd (nothing_in j)))
  rest_least (f ∷ fs) n e c m l z =
      let r : n ≤ g.element f = let q = reaches (l.ahead (field_of g f) here) in omega arith in
      to_first f fs e c _ l (λ x y i j. z x y (let q = reaches i in omega arith))
      (subst (λ (t : Bool). LeastFrom s v (of (f ∷ fs)) (g.element f) (g.component f) (cond t (at_fault (g.element f) (g.component f)) (test_rest g fs))) (broken_none s g false f)
      (matched f fs (g.element f) (g.component f) (raw_of s []) false _ l.rises l.tested.0 refl refl (ap (raw_of s) (sym (z (g.element f) (g.component f) r)))
      (record { has = λ h. absurd (false≢true h); lacks = λ h y. z (g.element f) y r })
      (rest_least fs n (g.element f) (suc (g.component f)) r (left_rest f fs e c l) z)))

  -- a component number is at least 1
  from_one : (e a b : ℕ) → From e 0 a b → 1 ≤ b → From e 1 a b
  from_one e a b (later h) k = later h
  from_one e a b (along h i) k = along h k

  -- the law
  pub elements_least : (xs : List (List Raw)) (e : ℕ) (fs : List ℕ) → Elements e xs → Left fs e 0 → LeastFrom s v (of fs) e 0 (test_elements s g e xs fs)
  unfolding test_elements
  elements_least [] e fs z l = rest_least fs e e 0 (omega arith) l z
  elements_least (x ∷ xs) e fs z l =
      clear_here s v (of fs) e 0 _
      (calm s v (of fs) e 0 z.0 (λ h i. before_trans e 0 e 1 _ _ (beside refl (omega arith)) (ones h i)))
      (components_least (any_bytes x) e (known_of e x z.0 z.1) (test_elements s g (suc e) xs) (λ hs k. elements_least xs (suc e) hs z.2 k) x fs 1 z.1
      (record { rises = l.rises; tested = l.tested; ahead = ones }))
    where
      ones : Ahead e 1 (of fs)
      ones h i = from_one e _ _ (l.ahead h i) (numbered (of fs) l.rises h i).1
