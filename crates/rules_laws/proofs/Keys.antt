-- Law row_key: line and place determine the row, whatever the homes and the parents: of two instances of one group, each row's place
-- is the trigger, or a segment that shows the line and hangs under that trigger; and in a good book no segment is both. And law
-- looks: an entry looks at its own conditions only.
use Prim.Native.Nat.{ℕ, zero, suc, ◌+◌, ◌-◌, ◌≤◌, ◌<◌}
use native.Mathlib.Omega.{arith}
use mathlib.Core.Path.{◌≡◌, refl, sym, ap, ◌∙◌, subst}
use mathlib.Core.Logic.{◌⊎◌, inl, inr}
use mathlib.Core.List.{List, [], ◌∷◌, ◌++◌}
use mathlib.Core.Bool.{Bool, true, false, cond, ◌&&◌}
use lib.Dec.{eqb}
use lib.ListN.{get_or}
use borrow.Author.Tests.{eq-eqb, ne_eqb, eqb-true}
use Rattle.guide.specs.meaning.Guide.{Guide, guide_of}
use Rattle.book.specs.meaning.GoodBook.{GoodBook}
use Rattle.guide.specs.meaning.View.{row_of}
use Rattle.guide.specs.meaning.Plan.{plan_of, opening, is_trigger}
use Rattle.guide.specs.meaning.Tree.{owner}
use Rattle.reading.specs.meaning.Service.{All}
use Rattle.reading_laws.proofs.Lists.{all_append}
use Rattle.placing_laws.proofs.Structured.{Structured, structured}
use Rattle.rules.specs.meaning.Instances.{segments_of, instances_of, shown_by, first_in, first_of, is_present, place_in}
use Rattle.rules.specs.meaning.Entries.{Entry, entry_for, entries_in, entries_from, entries_of}
use Rattle.rules_laws.proofs.Fillings.{LooksAt}
use Rattle.rules_laws.proofs.Exact.{breaks_looks}
use Rattle.rules_laws.proofs.Lines.{apart}

-- ---- of all entries, and of one among them

abbrev pub In : Entry → List Entry → Type 0
In e [] = ⊥
In e (d ∷ ds) = (e ≡ d) ⊎ In e ds

pub all_of : (P : Entry → Type 0) (e : Entry) (es : List Entry) → All P es → In e es → P e
all_of P e [] h i = absurd i
all_of P e (d ∷ ds) h (inl q) = subst P (sym q) h.0
all_of P e (d ∷ ds) h (inr i) = all_of P e ds h.1 i

-- ---- what holds of the entry of any line and instance holds of all

module _ (g : Guide) (p : ℕ) (hs ps : List ℕ) (P : Entry → Type 0) where
  all_in : (l : ℕ) → ((t seen : ℕ) → P (entry_for (row_of g p l) l t seen)) → (ts : List ℕ) → All P (entries_in g p l hs ps ts)
  unfolding entries_in
  all_in l h [] = tt
  all_in l h (t ∷ ts) = (h t (first_of (plan_of g) l t hs ps), all_in l h ts)

  all_from : (l count : ℕ) → ((m : ℕ) → l ≤ m → m < l + count → (t seen : ℕ) → P (entry_for (row_of g p m) m t seen)) → All P (entries_from g p hs ps l count)
  unfolding entries_from
  all_from l zero h = tt
  all_from l (suc count) h =
      all_append P (entries_in g p l hs ps (instances_of (owner (plan_of g) l) hs)) (entries_from g p hs ps (suc l) count)
      (all_in l (h l (omega arith) (omega arith)) (instances_of (owner (plan_of g) l) hs))
      (all_from (suc l) count (λ m i j. h m (omega arith) (omega arith)))

  pub all_entries : ((l : ℕ) → 1 ≤ l → l ≤ g.lines → (t seen : ℕ) → P (entry_for (row_of g p l) l t seen)) → All P (entries_of g p hs ps)
  all_entries h = all_from 1 g.lines (λ m i j. h m i (omega arith))

-- ---- law looks

abbrev pub Looks : Entry → Type 0
Looks e = LooksAt e.conditions e.is_broken_by

pub looks : (g : Guide) (p : ℕ) (hs ps : List ℕ) → All Looks (entries_of g p hs ps)
looks g p hs ps = all_entries g p hs ps Looks (λ l i j t seen. breaks_looks (row_of g p l) (is_present seen))

-- ---- law row_key

-- no entry of a list has the line and the place of this one
abbrev pub Apart : Entry → List Entry → Type 0
Apart e es = All (λ d. e.line ≡ d.line → e.place ≡ d.place → ⊥) es

abbrev pub Keyed : List Entry → Type 0
Keyed [] = Unit {0}
Keyed (e ∷ es) = Apart e es × Keyed es

-- line by line
abbrev OnLine : ℕ → List Entry → Type 0
OnLine l es = All (λ e. e.line ≡ l) es

abbrev Behind : ℕ → List Entry → Type 0
Behind l es = All (λ e. l < e.line) es

apart_behind : (e : Entry) (l : ℕ) (es : List Entry) → e.line ≡ l → Behind l es → Apart e es
apart_behind e l [] q h = tt
apart_behind e l (d ∷ ds) q h = (λ x y. let i = h.0 in omega arith, apart_behind e l ds q h.1)

keyed_append : (l : ℕ) (xs ys : List Entry) → OnLine l xs → Behind l ys → Keyed xs → Keyed ys → Keyed (xs ++ ys)
keyed_append l [] ys o h j k = k
keyed_append l (x ∷ xs) ys o h j k = (all_append _ xs ys j.0 (apart_behind x l ys o.0 h), keyed_append l xs ys o.1 h j.1 k)

-- what is known of a first segment
record At (s t j : ℕ) (hs ps : List ℕ) (x : ℕ) : Type 0 where
  from : j ≤ x
  home : get_or hs (x - j) 0 ≡ s
  parent : get_or ps (x - j) 0 ≡ t

one_on : (h j x : ℕ) (hs : List ℕ) → suc j ≤ x → get_or (h ∷ hs) (x - j) 0 ≡ get_or hs (x - suc j) 0
one_on h j x hs i = let e : x - j ≡ suc (x - suc j) = omega arith in ap (λ (n : ℕ). get_or (h ∷ hs) n 0) e

at_once : (h j : ℕ) (hs : List ℕ) → get_or (h ∷ hs) (j - j) 0 ≡ h
at_once h j hs = let e : j - j ≡ 0 = omega arith in ap (λ (n : ℕ). get_or (h ∷ hs) n 0) e

first_at : (s t j : ℕ) (hs ps : List ℕ) → (first_in s t j hs ps ≡ 0) ⊎ At s t j hs ps (first_in s t j hs ps)
unfolding first_in
first_at s t j [] ps = inl refl
first_at s t j (h ∷ hs) [] = inl refl
first_at s t j (h ∷ hs) (p ∷ ps) = go (eqb h s) refl (eqb p t) refl (first_at s t (suc j) hs ps)
  where
    on : (x : ℕ) → (x ≡ 0) ⊎ At s t (suc j) hs ps x → (x ≡ 0) ⊎ At s t j (h ∷ hs) (p ∷ ps) x
    on x (inl e) = inl e
    on x (inr a) =
        let i = a.from in
        inr (record { from = omega arith; home = one_on h j x hs i ∙ a.home; parent = one_on p j x ps i ∙ a.parent })

    go : (b : Bool) → eqb h s ≡ b → (c : Bool) → eqb p t ≡ c → (first_in s t (suc j) hs ps ≡ 0) ⊎ At s t (suc j) hs ps (first_in s t (suc j) hs ps)
        → (cond (b && c) j (first_in s t (suc j) hs ps) ≡ 0) ⊎ At s t j (h ∷ hs) (p ∷ ps) (cond (b && c) j (first_in s t (suc j) hs ps))
    go true x true y r =
        inr (record { from = omega arith; home = at_once h j hs ∙ eqb-true h s x; parent = at_once p j ps ∙ eqb-true p t y })
    go true x false y r = on _ r
    go false x c y r = on _ r

-- what is known of triggers: they rise from above m, and have their home
abbrev Triggers : ℕ → ℕ → List ℕ → ℕ → List ℕ → Type 0
Triggers o j hs m [] = Unit {0}
Triggers o j hs m (t ∷ ts) = (m < t) × (j ≤ t) × (get_or hs (t - j) 0 ≡ o) × Triggers o j hs t ts

triggers_on : (o j h : ℕ) (hs : List ℕ) (m : ℕ) (ts : List ℕ) → Triggers o (suc j) hs m ts → Triggers o j (h ∷ hs) m ts
triggers_on o j h hs m [] r = tt
triggers_on o j h hs m (t ∷ ts) r = (r.0, omega arith, one_on h j t hs r.1 ∙ r.2, triggers_on o j h hs t ts r.3)

triggers_from : (o j : ℕ) (hs : List ℕ) (m k : ℕ) (ts : List ℕ) → k ≤ m → Triggers o j hs m ts → Triggers o j hs k ts
triggers_from o j hs m k [] i r = tt
triggers_from o j hs m k (t ∷ ts) i r = (omega arith, r.1, r.2, r.3)

segments_rise : (o j : ℕ) (hs : List ℕ) (m : ℕ) → m < j → Triggers o j hs m (segments_of o j hs)
unfolding segments_of
segments_rise o j [] m i = tt
segments_rise o j (h ∷ hs) m i = go (eqb h o) refl (triggers_on o j h hs j (segments_of o (suc j) hs) (segments_rise o (suc j) hs j (omega arith)))
  where
    go : (b : Bool) → eqb h o ≡ b → Triggers o j (h ∷ hs) j (segments_of o (suc j) hs) → Triggers o j (h ∷ hs) m (cond b (j ∷ segments_of o (suc j) hs) (segments_of o (suc j) hs))
    go true e r = (i, omega arith, at_once h j hs ∙ eqb-true h o e, r)
    go false e r = triggers_from o j (h ∷ hs) j m (segments_of o (suc j) hs) (omega arith) r

-- a row's place
place_absent : (t x : ℕ) → 0 < t → x ≡ 0 → place_in t x ≡ t
place_absent t x h e = rw (eq-eqb x 0 e, ne_eqb t 0 (λ z. omega arith))

place_present : (t x : ℕ) → (x ≡ 0 → ⊥) → place_in t x ≡ x
place_present t x n = rw (ne_eqb x 0 n)

module _ (o s : ℕ) (hs ps : List ℕ) (differ : o ≡ s → ⊥) where
  places_differ : (t u x y : ℕ) → 1 ≤ t → 1 ≤ u → (t ≡ u → ⊥) → get_or hs (t - 1) 0 ≡ o → get_or hs (u - 1) 0 ≡ o
      → (x ≡ 0) ⊎ At s t 1 hs ps x → (y ≡ 0) ⊎ At s u 1 hs ps y → place_in t x ≡ place_in u y → ⊥
  places_differ t u x y i j n a b (inl e) (inl f) q = n (sym (place_absent t x i e) ∙ q ∙ place_absent u y j f)
  places_differ t u x y i j n a b (inl e) (inr f) q =
      let k = f.from in
      let z : t ≡ y = sym (place_absent t x i e) ∙ q ∙ place_present u y (λ w. omega arith) in
      differ (sym a ∙ ap (λ (m : ℕ). get_or hs (m - 1) 0) z ∙ f.home)
  places_differ t u x y i j n a b (inr e) (inl f) q =
      let k = e.from in
      let z : x ≡ u = sym (place_present t x (λ w. omega arith)) ∙ q ∙ place_absent u y j f in
      differ (sym b ∙ ap (λ (m : ℕ). get_or hs (m - 1) 0) (sym z) ∙ e.home)
  places_differ t u x y i j n a b (inr e) (inr f) q =
      let k = e.from in
      let m = f.from in
      let z : x ≡ y = sym (place_present t x (λ w. omega arith)) ∙ q ∙ place_present u y (λ w. omega arith) in
      n (sym e.parent ∙ ap (λ (r : ℕ). get_or ps (r - 1) 0) z ∙ f.parent)

module _ (g : Guide) (st : Structured (plan_of g)) (p : ℕ) (hs ps : List ℕ) (l : ℕ) (from : 1 ≤ l) (to : l ≤ g.lines) where
  abbrev entry : ℕ → Entry
  entry t = entry_for (row_of g p l) l t (first_of (plan_of g) l t hs ps)

  abbrev Distinct : ℕ → Type 0
  Distinct o = (t u : ℕ) → 1 ≤ t → t < u → get_or hs (t - 1) 0 ≡ o → get_or hs (u - 1) 0 ≡ o → (entry t).place ≡ (entry u).place → ⊥

  apart_in : (o : ℕ) → Distinct o → (t : ℕ) → 1 ≤ t → get_or hs (t - 1) 0 ≡ o → (m : ℕ) (ts : List ℕ) → t ≤ m → Triggers o 1 hs m ts → Apart (entry t) (entries_in g p l hs ps ts)
  unfolding entries_in
  apart_in o d t i a m [] h r = tt
  apart_in o d t i a m (u ∷ ts) h r = (λ _ q. d t u i (omega arith) a r.2 q, apart_in o d t i a u ts (omega arith) r.3)

  keyed_in : (o : ℕ) → Distinct o → (m : ℕ) (ts : List ℕ) → Triggers o 1 hs m ts → Keyed (entries_in g p l hs ps ts)
  unfolding entries_in
  keyed_in o d m [] r = tt
  keyed_in o d m (t ∷ ts) r = (apart_in o d t r.1 r.2 t ts (omega arith) r.3, keyed_in o d t ts r.3)

  distinct : (o : ℕ) → opening (owner (plan_of g) l) ≡ o → Distinct o
  distinct o e t u i h a b q = go (is_trigger (plan_of g) l) refl q
    where
      go : (c : Bool) → is_trigger (plan_of g) l ≡ c
          → place_in t (cond c t (first_in (shown_by (plan_of g) l) t 1 hs ps)) ≡ place_in u (cond c u (first_in (shown_by (plan_of g) l) u 1 hs ps)) → ⊥
      go true c z =
          let x : t ≡ u = sym (place_present t t (λ w. omega arith)) ∙ z ∙ place_present u u (λ w. omega arith) in omega arith
      go false c z =
          places_differ o (shown_by (plan_of g) l) hs ps (λ w. apart (plan_of g) st l from to c (e ∙ w)) t u _ _ i (omega arith) (λ w. omega arith) a b
          (first_at (shown_by (plan_of g) l) t 1 hs ps) (first_at (shown_by (plan_of g) l) u 1 hs ps) z

  -- the message is one instance
  keyed_one : (t : ℕ) → Keyed (entries_in g p l hs ps (t ∷ []))
  unfolding entries_in
  keyed_one t = (tt, tt)

  keyed_line : Keyed (entries_in g p l hs ps (instances_of (owner (plan_of g) l) hs))
  keyed_line = go (owner (plan_of g) l) refl
    where
      go : (o : ℕ) → owner (plan_of g) l ≡ o → Keyed (entries_in g p l hs ps (instances_of o hs))
      go zero e = keyed_one 0
      go (suc o) e = keyed_in (suc (suc o)) (distinct (suc (suc o)) (ap opening e)) 0 (segments_of (suc (suc o)) 1 hs) (segments_rise (suc (suc o)) 1 hs 0 (omega arith))

module _ (g : Guide) (st : Structured (plan_of g)) (p : ℕ) (hs ps : List ℕ) where
  keyed_from : (l count : ℕ) → 1 ≤ l → l + count ≤ suc g.lines → Keyed (entries_from g p hs ps l count)
  unfolding entries_from
  keyed_from l zero i j = tt
  keyed_from l (suc count) i j =
      keyed_append l (entries_in g p l hs ps (instances_of (owner (plan_of g) l) hs)) (entries_from g p hs ps (suc l) count)
      (all_in g p hs ps (λ e. e.line ≡ l) l (λ t seen. refl) (instances_of (owner (plan_of g) l) hs))
      (all_from g p hs ps (λ e. l < e.line) (suc l) count (λ m x y t seen. x)) (keyed_line g st p hs ps l i (omega arith)) (keyed_from (suc l) count (omega arith) (omega arith))

pub row_key : (book : List ℕ) (good : GoodBook book) (p : ℕ) (hs ps : List ℕ) → Keyed (entries_of (guide_of book) p hs ps)
row_key book good p hs ps = keyed_from (guide_of book) (structured book good) p hs ps 1 (guide_of book).lines (omega arith) (omega arith)
