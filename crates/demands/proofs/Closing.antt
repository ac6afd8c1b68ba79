-- The closing theorem: what the contract of `tracksaddle_judge` admits keeps the three demands. The contract pins the verdict, the
-- record's entries and the tables by definitions, and the demands are laws about those.
use Prim.Native.Nat.{ℕ, ◌≤◌}
use native.Mathlib.Omega.{arith}
use mathlib.Core.Path.{◌≡◌, refl, sym, ap, ◌∙◌, subst}
use mathlib.Core.Logic.{◌↔◌, ◌⊎◌, inl, inr}
use mathlib.Core.List.{List, []}
use mathlib.Core.Bool.{Bool, true, false}
use lib.Dec.{eqb}
use lib.ListN.{length, get_or, take}
use borrow.Author.Tests.{le-leb, lt-leb, eqb-true, eqb-false}
use Rattle.guide.specs.meaning.Guide.{guide_of}
use Rattle.reading.specs.meaning.Service.{standard}
use Rattle.reading.specs.method.Starts.{starts_from}
use Rattle.framing.specs.meaning.Record.{place, verdict, answer, numbers_of}
use Rattle.judging.specs.meaning.Tables.{is_refusal, Tables, room_of}
use Rattle.framing.specs.declared.verdict.Verdict.{Verdict}
use Rattle.placing.specs.method.Passes.{homes_from}
use Rattle.judging.specs.method.Answers.{fields_verdict, rows_verdict}
use Rattle.fields.specs.method.Testing.{first_fault}
use Rattle.std.specs.Prelude.{⊤, Option, Some, None, Result, Ok, Err}
use Rattle.fields.specs.declared.passes.FirstFault.{FirstFault}
use Rattle.rules.specs.meaning.Conditions.{Fills, Learns}
use Rattle.rules.specs.method.Identifiers.{identified}
use Rattle.rules.specs.method.Scanning.{scanned_row}
use Rattle.rules.specs.method.Scanning.{Outcome}
use Rattle.rules.specs.declared.finding.Finding.TheVariants.{Broken, Unsettled}
use Rattle.judging.proofs.Decided.{refusal_number}
use Rattle.judging.specs.method.Table.{refusal, identifier_in, identifier_verdict, placed_stage, judged, tables_after}
use Rattle.slices.specs.meaning.Lent.{as_many_as_fit}
use Rattle.demands.proofs.DoorMeans.{whole_record, lent, lent_to_write}
use Rattle.demands.specs.meaning.Demands.{HoldTree, Demand1, Demand2, Demand3}
use Rattle.demands.specs.meaning.Closing as call
use Rattle.demands.specs.meaning.Closing.{Handed, Left, Promised, knowing, Answers, Shown, IsOther, Closing}
use Rattle.demands.proofs.DemandThree.{refused_is, placed_is}
use Rattle.demands.proofs.Demands.{certain_standard}

-- ---- a verdict is its six numbers, and a record with room for them shows it

abbrev of_numbers : List ℕ → Verdict
of_numbers xs = verdict (get_or xs 0 0) (place (get_or xs 1 0) (get_or xs 2 0) (get_or xs 3 0) (get_or xs 4 0)) (get_or xs 5 0)

one_verdict : (v w : Verdict) (entries : List ℕ) → 6 ≤ length entries → as_many_as_fit (numbers_of v) entries ≡ as_many_as_fit (numbers_of w) entries → v ≡ w
one_verdict v w entries room e = ap of_numbers (sym (whole_record v entries room) ∙ ap (take 6) e ∙ whole_record w entries room)

-- ---- number 0 comes with its place alone

rows_zero : (n : ℕ) (f : Outcome) → (rows_verdict n f).number ≡ 0 → rows_verdict n f ≡ answer 0 n
rows_zero n (Ok _) e = refl
rows_zero n (Err (Broken k l)) e = absurd (omega arith)
rows_zero n (Err (Unsettled k l c)) e = absurd (omega arith)

module _ (bs book cs : List ℕ) (n : ℕ) where
  placed_zero : (placed_stage standard bs book cs n).number ≡ 0 → placed_stage standard bs book cs n ≡ answer 0 n
  unfolding placed_stage
  placed_zero =
      go (first_fault standard (guide_of book) bs 0 (starts_from standard bs n 0) (homes_from standard bs book n 0))
      (identified (guide_of book) (identifier_in standard (guide_of book) bs (starts_from standard bs n 0) (homes_from standard bs book n 0)))
    where
      go : (f : Result ⊤ FirstFault) (i : Option ℕ) → (fields_verdict f (identifier_verdict (guide_of book) cs n (homes_from standard bs book n 0) i)).number ≡ 0
          → fields_verdict f (identifier_verdict (guide_of book) cs n (homes_from standard bs book n 0) i) ≡ answer 0 n
      go (Err x) i z = absurd (omega arith)
      go (Ok _) None z = absurd (omega arith)
      go (Ok _) (Some p) z = rows_zero n (scanned_row (guide_of book) p cs (homes_from standard bs book n 0)) z

-- ---- what the contract says of a call

module _ (h : Handed) where
  abbrev verdict_on : Verdict
  verdict_on = judged standard h.message h.book h.conditions (room_of h.tables)

  abbrev tables_on : Tables
  tables_on = tables_after standard h.message h.book h.conditions h.tables

  abbrev refusal_on : Verdict
  refusal_on = refusal standard h.message h.book h.conditions (room_of h.tables)

  zero_verdict : verdict_on.number ≡ 0 → (n : ℕ) × (verdict_on ≡ answer 0 n)
  zero_verdict z = go (eqb refusal_on.number 0) refl
    where
      go : (b : Bool) → eqb refusal_on.number 0 ≡ b → (n : ℕ) × (verdict_on ≡ answer 0 n)
      go true e =
          let is = placed_is standard h.message h.book (room_of h.tables) h.conditions (eqb-true refusal_on.number 0 e) in
          (refusal_on.place.at, is ∙ placed_zero h.message h.book h.conditions refusal_on.place.at (sym (ap (λ (v : Verdict). v.number) is) ∙ z))
      go false e =
          let n = eqb-false refusal_on.number 0 e in
          absurd (n (sym (ap (λ (v : Verdict). v.number) (refused_is standard h.message h.book (room_of h.tables) h.conditions n)) ∙ z))

pub record Given (h : Handed) (l : Left) : Type 0 where
  pub number : l.number ≡ (verdict_on h).number
  pub entries : l.entries ≡ as_many_as_fit (numbers_of (verdict_on h)) h.entries
  pub tables : l.tables ≡ tables_on h

module _ (h : Handed) (l : Left) (p : Promised h l) where
  abbrev handed : Handed
  handed =
      record {
        message = p.passed.0.now;
        book = p.passed.1.0.now;
        conditions = p.passed.1.1.0.now;
        tables = record { starts = p.passed.1.1.1.0.now; homes = p.passed.1.1.1.1.0.now; parents = p.passed.1.1.1.1.1.0.now };
        entries = p.passed.1.1.1.1.1.1.0.now;
      }

  abbrev left : Left
  left =
      record {
        number = l.number;
        tables = record { starts = p.at_exit.1.1.1.0.now; homes = p.at_exit.1.1.1.1.0.now; parents = p.at_exit.1.1.1.1.1.0.now };
        entries = p.at_exit.1.1.1.1.1.1.0.now;
      }

  handed_is : handed ≡ h
  handed_is i =
      record {
        message = p.message i;
        book = p.book i;
        conditions = p.conditions i;
        tables = record { starts = p.starts_before i; homes = p.homes_before i; parents = p.parents_before i };
        entries = p.entries_before i;
      }

  left_is : left ≡ l
  left_is i =
      record {
        number = l.number;
        tables = record { starts = p.starts_after i; homes = p.homes_after i; parents = p.parents_after i };
        entries = p.entries_after i;
      }

  given : Given h l
  given =
      subst (Given h) left_is
      (subst (λ (g : Handed). Given g left) handed_is (record { number = p.promise.0; entries = p.promise.1; tables = p.promise.2 }))

-- ---- whatever is handed over, there is an outcome that the contract admits

-- a call's seven arguments: three that it reads, and four that it may write
abbrev seven : {A B : Type 0} → A → A → A → B → B → B → B → A × (A × (A × (B × (B × (B × (B × Unit {0}))))))
seven a b c d e f g = (a, (b, (c, (d, (e, (f, (g, tt)))))))

outcome : (h : Handed) → (l : Left) × Promised h l
outcome h = (
  record { number = (verdict_on h).number; tables = tables_on h; entries = as_many_as_fit (numbers_of (verdict_on h)) h.entries },
  record {
    lifetimes = seven [] [] [] [] [] [] [];
    passed = seven (lent h.message) (lent h.book) (lent h.conditions) (lent_to_write h.tables.starts) (lent_to_write h.tables.homes) (lent_to_write h.tables.parents) (lent_to_write h.entries);
    at_exit = seven (lent h.message) (lent h.book) (lent h.conditions) (lent_to_write (tables_on h).starts) (lent_to_write (tables_on h).homes)
        (lent_to_write (tables_on h).parents) (lent_to_write (as_many_as_fit (numbers_of (verdict_on h)) h.entries));
    promise = (refl, refl, refl);
    message = refl;
    book = refl;
    conditions = refl;
    starts_before = refl;
    homes_before = refl;
    parents_before = refl;
    entries_before = refl;
    starts_after = refl;
    homes_after = refl;
    parents_after = refl;
    entries_after = refl;
  },
)

-- ---- the demands, of the call

module _ (h : Handed) where
  demand_1 : Demand1 standard h.message h.book h.tables
  demand_1 = certain_standard.demand_1 h.message h.book h.tables

  demand_2 : Demand2 standard h.message h.book h.conditions (room_of h.tables)
  demand_2 = certain_standard.demand_2 h.message h.book h.conditions (room_of h.tables)

  demand_3 : Demand3 standard h.message h.book (room_of h.tables)
  demand_3 = certain_standard.demand_3 h.message h.book (room_of h.tables)

answered : (h : Handed) (l : Left) → Given h l → (v : Verdict) → verdict_on h ≡ v → Answers h l v
answered h l g v e = (g.number ∙ ap (λ (x : Verdict). x.number) e, g.entries ∙ ap (λ (x : Verdict). as_many_as_fit (numbers_of x) h.entries) e)

-- where a whole verdict is shown, the answer is the verdict
shown_is : (h : Handed) (l : Left) → Given h l → Shown h → (v : Verdict) → Answers h l v ↔ (verdict_on h ≡ v)
shown_is h l g room v = (λ a. one_verdict (verdict_on h) v h.entries room (sym g.entries ∙ a.1), answered h l g v)

other_number : (n : ℕ) → (n ≡ 0) ⊎ (12 ≤ n) → is_refusal n ≡ false
other_number n (inl e) = ap is_refusal e
other_number n (inr k) = rw (le-leb 1 n (omega arith), lt-leb n 11 (omega arith))

module _ (h : Handed) (l : Left) (p : Promised h l) where
  g : Given h l
  g = given h l p

  same_tree : (ds : List ℕ) (k : Left) → Promised (knowing ds h) k → IsOther l → IsOther k → l.tables ≡ k.tables
  same_tree ds k q a b =
      let there = given (knowing ds h) k q in
      g.tables
      ∙ (demand_1 h).same_tree h.conditions ds (sym (ap is_refusal g.number) ∙ other_number l.number a) (sym (ap is_refusal there.number) ∙ other_number k.number b)
      ∙ sym there.tables

  same_later : (ds : List ℕ) (k : Left) → Promised (knowing ds h) k → Learns h.conditions ds → l.tables ≡ k.tables
  same_later ds k q i = g.tables ∙ (demand_1 h).same_later h.conditions ds i ∙ sym (given (knowing ds h) k q).tables

  same_filled : (fs gs : List ℕ) (j k : Left) → Promised (knowing fs h) j → Promised (knowing gs h) k → Fills h.conditions fs → Fills h.conditions gs → j.tables ≡ k.tables
  same_filled fs gs j k q r x y =
      (given (knowing fs h) j q).tables ∙ (demand_1 h).same_filled h.conditions fs gs x y ∙ sym (given (knowing gs h) k r).tables

  keeps : call.Kept h l
  keeps =
      record {
        verdict = (verdict_on h, (((demand_2 h).fault (verdict_on h)).0 refl, (g.number, g.entries)));
        one_verdict = λ room v w a b. sym ((shown_is h l g room v).0 a) ∙ (shown_is h l g room w).0 b;
        untouched = λ a b. g.tables ∙ (demand_1 h).untouched h.conditions (sym (ap is_refusal g.number) ∙ refusal_number l.number (λ e. absurd (omega arith)) b);
        tree = λ a.
            subst (HoldTree standard h.message h.book h.tables) (sym g.tables)
            ((demand_1 h).tree h.conditions (sym (ap is_refusal g.number) ∙ other_number l.number a));
        same_tree = same_tree;
        same_later = same_later;
        same_filled = same_filled;
        accepted = λ good fit known limits. (
          λ z. let v = zero_verdict h (sym g.number ∙ z) in (v.0, (((demand_2 h).accepted good fit known limits v.0).0 v.1, answered h l g (answer 0 v.0) v.1)),
          λ n a. answered h l g (answer 0 n) (((demand_2 h).accepted good fit known limits n).1 a),
        );
        fault = λ room v. (λ a. ((demand_2 h).fault v).0 ((shown_is h l g room v).0 a), λ t. (shown_is h l g room v).1 (((demand_2 h).fault v).1 t));
        sure = λ room v n. (
          λ a fs k f q. (shown_is (knowing fs h) k (given (knowing fs h) k q) room v).1 (((demand_3 h).sure h.conditions v n).0 ((shown_is h l g room v).0 a) fs f),
          λ all. (shown_is h l g room v).1
              (((demand_3 h).sure h.conditions v n).1
              (λ fs f. let o = outcome (knowing fs h) in (shown_is (knowing fs h) o.0 (given (knowing fs h) o.0 o.1) room v).0 (all fs o.0 f o.1))),
        );
        unsure = λ room. (
          λ e. let d = ((demand_3 h).unsure h.conditions).0 (sym g.number ∙ e) in (
            d.0,
            d.1,
            d.2,
            d.3,
            λ j k q r v a b.
                d.4
                ((shown_is (knowing d.0 h) j (given (knowing d.0 h) j q) room v).0 a
                ∙ sym ((shown_is (knowing d.1 h) k (given (knowing d.1 h) k r) room v).0 b)),
          ),
          λ d. g.number
              ∙ ((demand_3 h).unsure h.conditions).1 (
                d.0,
                d.1,
                d.2,
                d.3,
                λ e.
                    let o = outcome (knowing d.0 h) in
                    let u = outcome (knowing d.1 h) in
                    d.4 o.0 u.0 o.1 u.1 (verdict_on (knowing d.1 h))
                    ((shown_is (knowing d.0 h) o.0 (given (knowing d.0 h) o.0 o.1) room (verdict_on (knowing d.1 h))).1 e)
                    ((shown_is (knowing d.1 h) u.0 (given (knowing d.1 h) u.0 u.1) room (verdict_on (knowing d.1 h))).1 refl),
              ),
        );
        fillings_agree = λ v n. (
          λ t fs f. ((demand_2 (knowing fs h)).fault v).0 (((demand_3 h).sure h.conditions v n).0 (((demand_2 h).fault v).1 t) fs f),
          λ all. ((demand_2 h).fault v).0 (((demand_3 h).sure h.conditions v n).1 (λ fs f. ((demand_2 (knowing fs h)).fault v).1 (all fs f))),
        );
        fillings_differ = (
          λ e. let d = ((demand_3 h).unsure h.conditions).0 (sym g.number ∙ e) in (
            d.0,
            d.1,
            d.2,
            d.3,
            λ v a b. d.4 (((demand_2 (knowing d.0 h)).fault v).1 a ∙ sym (((demand_2 (knowing d.1 h)).fault v).1 b)),
          ),
          λ d. g.number
              ∙ ((demand_3 h).unsure h.conditions).1 (
                d.0,
                d.1,
                d.2,
                d.3,
                λ e.
                    d.4 (verdict_on (knowing d.1 h)) (((demand_2 (knowing d.0 h)).fault (verdict_on (knowing d.1 h))).0 e)
                    (((demand_2 (knowing d.1 h)).fault (verdict_on (knowing d.1 h))).0 refl),
              ),
        );
        later = λ ds k q i n v a.
            let same : verdict_on (knowing ds h) ≡ verdict_on h = (demand_3 h).later h.conditions ds i (λ e. n (g.number ∙ e)) in
            let there = given (knowing ds h) k q in (
              there.number ∙ ap (λ (x : Verdict). x.number) same ∙ sym g.number ∙ a.0,
              there.entries ∙ ap (λ (x : Verdict). as_many_as_fit (numbers_of x) h.entries) same ∙ sym g.entries ∙ a.1,
            );
      }

pub closing : Closing
closing = record { asks_nothing = λ κs a. tt; answers = outcome; keeps = keeps }
