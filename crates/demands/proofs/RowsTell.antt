-- The rows say what the table says: numbers 14 and 15 in terms of fillings.
use Prim.Native.Nat.{ℕ, ◌≤◌}
use native.Mathlib.Omega.{arith}
use mathlib.Core.Path.{◌≡◌, refl, sym, ap, ◌∙◌, subst}
use mathlib.Core.List.{List, [], ◌∷◌}
use mathlib.Core.Bool.{Bool, true, false, true≢false, cond}
use mathlib.Core.Logic.{◌↔◌, inl, inr}
use Rattle.reading.specs.meaning.Service.{All}
use Rattle.fields.specs.meaning.Fields.{In, here, there}
use Rattle.rules.specs.meaning.Conditions.{is_unknown}
use Rattle.rules.specs.method.Scanning.{first_unknown}
use Rattle.rules_laws.specs.laws.FirstFound.{some, every, found_among}
use Rattle.rules.specs.meaning.Entries.{Entry, SomeBreaks, EveryBreaks}
use Rattle.std.specs.Prelude.{Err}
use Rattle.rules.specs.declared.finding.Finding.TheVariants.{Broken, Unsettled}
use Rattle.rules_laws.proofs.Fillings.{some_filling, every_filling}
use Rattle.rules_laws.proofs.Findings.{Names, Lowest}
use Rattle.rules_laws.proofs.Keys.{Looks}
use Rattle.framing.specs.meaning.Record.{place, verdict}
use Rattle.judging.specs.method.Answers.{rows_verdict}
use Rattle.demands.specs.meaning.Table.{LowestUnknown, RowsSay}
use Rattle.framing.specs.declared.verdict.Verdict.{Verdict}

-- ---- the lowest unknown condition

in_names : (k : ℕ) (ks : List ℕ) → Names k ks → In k ks
in_names k [] n = absurd n
in_names k (j ∷ ks) (inl e) = subst (λ (x : ℕ). In k (x ∷ ks)) e here
in_names k (j ∷ ks) (inr n) = there (in_names k ks n)

all_lowest : (cs ks : List ℕ) (k : ℕ) → ((j : ℕ) → Names j ks → is_unknown cs j ≡ true → k ≤ j) → All (λ j. is_unknown cs j ≡ true → k ≤ j) ks
all_lowest cs [] k h = tt
all_lowest cs (j ∷ ks) k h = (h j (inl refl), all_lowest cs ks k (λ i n. h i (inr n)))

lowest_unknown : (cs ks : List ℕ) (k : ℕ) → Lowest cs ks k → LowestUnknown cs ks k
lowest_unknown cs ks k l = record { named = in_names k ks l.named; unknown = l.unknown; lowest = all_lowest cs ks k l.least }

at_most : (cs : List ℕ) (j k : ℕ) (ks : List ℕ) → All (λ i. is_unknown cs i ≡ true → k ≤ i) ks → In j ks → is_unknown cs j ≡ true → k ≤ j
at_most cs j k [] a n u = elim n [ ]
at_most cs j k (i ∷ ks) a here u = a.0 u
at_most cs j k (i ∷ ks) a (there n) u = at_most cs j k ks a.1 n u

one_lowest : (cs ks : List ℕ) (j k : ℕ) → LowestUnknown cs ks j → LowestUnknown cs ks k → j ≡ k
one_lowest cs ks j k x y =
    let a = at_most cs j k ks y.lowest x.named x.unknown in
    let b = at_most cs k j ks x.lowest y.named y.unknown in
    omega arith

-- ---- entry by entry

module _ (cs : List ℕ) (n : ℕ) (v : Verdict) where
  -- where an entry is left open, the first of its unknown conditions is the lowest
  abbrev pub OpensLowest : Entry → Type 0
  OpensLowest e = some cs e.conditions e.is_broken_by ≡ true → every cs e.conditions e.is_broken_by ≡ false
      → Lowest cs e.conditions (first_unknown cs e.conditions)

  module _ (e : Entry) (looks : Looks e) (low : OpensLowest e) (es : List Entry) (ih : (rows_verdict n (found_among cs es) ≡ v) ↔ RowsSay cs n es v) where
    some_breaks : some cs e.conditions e.is_broken_by ≡ true → SomeBreaks cs e
    some_breaks h = let w = (some_filling cs e.conditions e.is_broken_by looks).0 h in record { filling = w.0; fills = w.1; breaks = w.2 }

    breaks_some : SomeBreaks cs e → some cs e.conditions e.is_broken_by ≡ true
    breaks_some b = (some_filling cs e.conditions e.is_broken_by looks).1 (b.filling, b.fills, b.breaks)

    abbrev Said : Type 0
    Said = RowsSay cs n (e ∷ es) v

    entry_says : (x y : Bool) → some cs e.conditions e.is_broken_by ≡ x → every cs e.conditions e.is_broken_by ≡ y
        → (rows_verdict n (cond x (cond y (Err (Broken e.place e.line)) (Err (Unsettled e.place e.line (first_unknown cs e.conditions)))) (found_among cs es)) ≡ v) ↔ Said
    entry_says true true p q = (λ h. inl (some_breaks p, inl (all, sym h)), from)
      where
        all : EveryBreaks cs e
        all = (every_filling cs e.conditions e.is_broken_by looks).0 q

        from : Said → verdict 14 (place e.place e.line 0 0) 0 ≡ v
        from (inl (b, inl (a, h))) = sym h
        from (inl (b, inr (a, h))) = absurd (a all)
        from (inr (b, h)) = absurd (b (some_breaks p))
    entry_says true false p q = (λ h. inl (some_breaks p, inr (not-all, (first_unknown cs e.conditions, lowest, sym h))), from)
      where
        not-all : EveryBreaks cs e → ⊥
        not-all a = true≢false (sym ((every_filling cs e.conditions e.is_broken_by looks).1 a) ∙ q)

        lowest : LowestUnknown cs e.conditions (first_unknown cs e.conditions)
        lowest = lowest_unknown cs e.conditions (first_unknown cs e.conditions) (low p q)

        from : Said → verdict 15 (place e.place e.line 0 0) (first_unknown cs e.conditions) ≡ v
        from (inl (b, inl (a, h))) = absurd (not-all a)
        from (inl (b, inr (a, (k, l, h)))) =
            ap (verdict 15 (place e.place e.line 0 0)) (one_lowest cs e.conditions (first_unknown cs e.conditions) k lowest l) ∙ sym h
        from (inr (b, h)) = absurd (b (some_breaks p))
    entry_says false y p q = (λ h. inr (λ b. true≢false (sym (breaks_some b) ∙ p), ih.0 h), from)
      where
        from : Said → rows_verdict n (found_among cs es) ≡ v
        from (inl (b, h)) = absurd (true≢false (sym (breaks_some b) ∙ p))
        from (inr (b, h)) = ih.1 h

  pub rows_say : (es : List Entry) → All Looks es → All OpensLowest es → (rows_verdict n (found_among cs es) ≡ v) ↔ RowsSay cs n es v
  unfolding found_among
  rows_say [] l o = (sym, sym)
  rows_say (e ∷ es) l o =
      entry_says e l.0 o.0 es (rows_say es l.1 o.1) (some cs e.conditions e.is_broken_by) (every cs e.conditions e.is_broken_by) refl refl
