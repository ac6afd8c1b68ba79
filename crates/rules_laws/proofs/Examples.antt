-- 01's bench messages for book K, as homes: the first row over all fillings, and as the code finds it; some rows with two conditions;
-- and which assignments the rules hold under, on the tree. The laws speak of something: K is good, and its messages are placed.
use Prim.Native.Nat.{ℕ}
use native.Mathlib.Omega.{arith}
use mathlib.Core.Path.{◌≡◌, refl, sym, ap, ◌∙◌, subst}
use mathlib.Core.Logic.{◌↔◌}
use mathlib.Core.List.{List, [], ◌∷◌}
use mathlib.Core.Bool.{Bool, true, false, not, ◌&&◌, true≢false}
use Rattle.reading.specs.meaning.Service.{All}
use Rattle.guide.specs.meaning.Edition.{edition_numbered}
use Rattle.guide.specs.meaning.Guide.{Guide, guide_of}
use Rattle.guide.specs.meaning.View.{Row}
use Rattle.book_laws.proofs.Bytes.{k}
use Rattle.book_laws.proofs.Inhabited.{k_is_good}
use Rattle.guide.specs.meaning.Plan.{plan_in}
use Rattle.guide.specs.method.Targets.{target}
use Rattle.placing.specs.meaning.Placement.{Placed, Allowed}
use Rattle.placing.specs.method.Walking.{is_placeable, is_clear, is_passed, can_close_all, admits, stacked, advanced, walked}
use Rattle.guide.specs.meaning.Tree.{climb}
use Rattle.placing.specs.method.Tree.{opened_by, noted, noted_parents}
use Rattle.placing_laws.proofs.Structured.{structured}
use Rattle.placing_laws.proofs.Noted.{tree}
use Rattle.placing_laws.proofs.Completing.{end_allowed}
use Rattle.placing_laws.proofs.Examples.{two_positions_allowed}
use Rattle.reading.specs.meaning.Component.{same_component}
use Rattle.rules.specs.meaning.Conditions.{Assignment, Fills}
use Rattle.rules_laws.specs.laws.FirstFound.{some, found_among, first_row}
use Rattle.rules.specs.meaning.Rows.{literal, all_hold, any_holds}
use Rattle.rules.specs.meaning.Instances.{segments_of, first_in}
use Rattle.rules.specs.meaning.Entries.{entries_in, entries_from, entries_of}
use Rattle.rules_laws.specs.meaning.OnTree.{RulesHold}
use Rattle.rules.specs.method.Scanning.{reading, breach_of, instances_from, scanned_in, scanned_from, scanned_row, first_unknown}
use Rattle.rules.specs.method.Identifiers.{identified_from, identified}
use Rattle.rules.specs.declared.breach.Breach.TheVariants.{Never, Always, Sometimes}
use Rattle.rules.specs.method.Scanning.{Outcome}
use Rattle.rules.specs.declared.finding.Finding.TheVariants.{Broken, Unsettled}
use Rattle.std.specs.Prelude.{Ok, Err}
use Rattle.std.specs.Prelude.{Some, None}
use Rattle.rules_laws.proofs.Scanned.{scanned}
use Rattle.rules_laws.proofs.OnTree.{rules_on_tree}
use Rattle.rules_laws.proofs.SureOrOpen.{unsettled}

-- 1 UNH, 2 BGM, 3 RFF, 4 group, 5 LIN, 6 QTY, 7 UNT
abbrev K : Guide
K = guide_of k

-- the first row of a message with these homes, where this is said of condition 1: by the definition, and by the code
abbrev Found : List ℕ → ℕ → Outcome → Type 0
Found hs c v = (first_row K 0 (c ∷ []) hs (noted_parents (plan_in k) hs) ≡ v) × (scanned_row K 0 (c ∷ []) hs ≡ v)

abbrev none : List ℕ
none = 1 ∷ 2 ∷ 3 ∷ 7 ∷ []

abbrev lin_qty : List ℕ
lin_qty = 1 ∷ 2 ∷ 3 ∷ 5 ∷ 6 ∷ 7 ∷ []

abbrev lin : List ℕ
lin = 1 ∷ 2 ∷ 3 ∷ 5 ∷ 7 ∷ []

abbrev lin_qty_lin : List ℕ
lin_qty_lin = 1 ∷ 2 ∷ 3 ∷ 5 ∷ 6 ∷ 5 ∷ 7 ∷ []

pub record Table : Type 0 where
  no_position : Found none 2 (Ok tt)
  present_true : Found lin_qty 1 (Ok tt)
  present_false : Found lin_qty 0 (Err (Broken 5 6))
  present_unknown : Found lin_qty 2 (Err (Unsettled 5 6 1))
  absent_true : Found lin 1 (Err (Broken 4 6))
  absent_false : Found lin 0 (Ok tt)
  absent_unknown : Found lin 2 (Err (Unsettled 4 6 1))
  -- QTY counts for its own LIN alone
  both_true : Found lin_qty_lin 1 (Err (Broken 6 6))
  both_false : Found lin_qty_lin 0 (Err (Broken 5 6))
  both_unknown : Found lin_qty_lin 2 (Err (Unsettled 5 6 1))
  -- the Prüfidentifikator
  ours : identified K (49 ∷ 48 ∷ 48 ∷ 48 ∷ 49 ∷ []) ≡ Some 0
  another : identified K (49 ∷ 48 ∷ 48 ∷ 48 ∷ 50 ∷ []) ≡ None
  too_short : identified K (49 ∷ 48 ∷ 48 ∷ 48 ∷ []) ≡ None

pub bench : Table
unfolding k edition_numbered guide_of target opened_by noted climb some first_unknown literal all_hold any_holds segments_of first_in entries_in entries_from found_among reading instances_from scanned_in scanned_from same_component identified_from
bench =
    record {
      no_position = (refl, refl);
      present_true = (refl, refl);
      present_false = (refl, refl);
      present_unknown = (refl, refl);
      absent_true = (refl, refl);
      absent_false = (refl, refl);
      absent_unknown = (refl, refl);
      both_true = (refl, refl);
      both_false = (refl, refl);
      both_unknown = (refl, refl);
      ours = refl;
      another = refl;
      too_short = refl;
    }

-- ---- rows with two conditions: 1, and not 2

abbrev must_if : ℕ → Row
must_if joint = record { mode = 3; joint = joint; conditions = 1 ∷ 130 ∷ 0 ∷ [] }

abbrev may_if : ℕ → Row
may_if joint = record { mode = 4; joint = joint; conditions = 1 ∷ 130 ∷ 0 ∷ [] }

pub record Rows : Type 0 where
  -- all: one literal that is false decides, whatever the other
  decided_false : breach_of (2 ∷ 1 ∷ []) (must_if 1) true ≡ Always
  decided_absent : breach_of (2 ∷ 1 ∷ []) (must_if 1) false ≡ Never
  open_all : breach_of (1 ∷ 2 ∷ []) (must_if 1) true ≡ Sometimes 2
  open_both : breach_of (2 ∷ 2 ∷ []) (must_if 1) true ≡ Sometimes 1
  -- any: one that is true decides
  decided_true : breach_of (2 ∷ 0 ∷ []) (must_if 2) true ≡ Never
  open_any : breach_of (0 ∷ 2 ∷ []) (must_if 2) false ≡ Sometimes 2
  -- a line that may be there is never missing
  may_absent : breach_of (2 ∷ 2 ∷ []) (may_if 1) false ≡ Never
  may_present : breach_of (2 ∷ 2 ∷ []) (may_if 1) true ≡ Sometimes 1

pub rows : Rows
unfolding reading literal first_unknown
rows =
    record {
      decided_false = refl;
      decided_absent = refl;
      open_all = refl;
      open_both = refl;
      decided_true = refl;
      open_any = refl;
      may_absent = refl;
      may_present = refl;
    }

-- the law scanned, of a message that is placed
pub two_positions : (cs : List ℕ) → scanned_row K 0 cs lin_qty_lin ≡ first_row K 0 cs lin_qty_lin (noted_parents (plan_in k) lin_qty_lin)
unfolding k guide_of
two_positions = scanned k k_is_good 0 (omega arith) lin_qty_lin two_positions_allowed

-- and the laws on what is known and not known: two fillings that make an open message another
pub two_fillings : (fs : List ℕ) × (gs : List ℕ) × Fills (2 ∷ []) fs × Fills (2 ∷ []) gs
    × (first_row K 0 fs lin_qty (noted_parents (plan_in k) lin_qty) ≡ first_row K 0 gs lin_qty (noted_parents (plan_in k) lin_qty) → ⊥)
unfolding k edition_numbered guide_of target opened_by noted climb some first_unknown literal all_hold any_holds segments_of first_in entries_in entries_from found_among
two_fillings = (unsettled k k_is_good 0 lin_qty (noted_parents (plan_in k) lin_qty) (2 ∷ [])).0 tt

-- ---- the rules on the tree: each LIN must have its own QTY exactly if condition 1 is true

abbrev lin_qty_lin_qty : List ℕ
lin_qty_lin_qty = 1 ∷ 2 ∷ 3 ∷ 5 ∷ 6 ∷ 5 ∷ 6 ∷ 7 ∷ []

-- under these assignments alone, whatever the placement
abbrev HoldUnder : List ℕ → (Assignment → Type 0) → Type 0
HoldUnder hs Under = Allowed (plan_in k) hs × ((t : Placed (plan_in k) hs) (a : Assignment) → RulesHold K 0 a t.tree ↔ Under a)

pub record OnTree : Type 0 where
  one_with : HoldUnder lin_qty (λ a. a 1 ≡ true)
  one_without : HoldUnder lin (λ a. a 1 ≡ false)
  both_with : HoldUnder lin_qty_lin_qty (λ a. a 1 ≡ true)
  -- QTY counts for its own LIN alone
  one_of_two : HoldUnder lin_qty_lin (λ a. ⊥)

by_lists : (hs : List ℕ) (t : Placed (plan_in k) hs) (a : Assignment)
    → RulesHold K 0 a t.tree ↔ All (λ e. e.is_broken_by a ≡ false) (entries_of K 0 hs (noted_parents (plan_in k) hs))
by_lists hs t a =
    subst (λ (ps : List ℕ). RulesHold K 0 a t.tree ↔ All (λ e. e.is_broken_by a ≡ false) (entries_of K 0 hs ps)) (sym (tree (plan_in k) (structured k k_is_good) hs t))
    (rules_on_tree k k_is_good 0 a hs t)

must_have : (v : Bool) → not (v && true) ≡ false → v ≡ true
must_have true e = refl
must_have false e = absurd (true≢false e)

must_not : (v : Bool) → (v && true) ≡ false → v ≡ false
must_not true e = absurd (true≢false e)
must_not false e = refl

pub on_tree : OnTree
unfolding k edition_numbered guide_of target opened_by noted climb literal all_hold segments_of first_in entries_in entries_from walked advanced is_placeable admits stacked is_clear is_passed can_close_all
on_tree =
    record {
      one_with = (
        end_allowed (plan_in k) (structured k k_is_good) lin_qty refl,
        λ t a. (
          λ h. must_have (a 1) ((by_lists lin_qty t a).0 h).1.1.1.1.1.0,
          λ e. (by_lists lin_qty t a).1 (refl, (refl, (refl, (refl, (refl, (ap (λ (v : Bool). not (v && true)) e, (refl, tt))))))),
        ),
      );
      one_without = (
        end_allowed (plan_in k) (structured k k_is_good) lin refl,
        λ t a. (
          λ h. must_not (a 1) ((by_lists lin t a).0 h).1.1.1.1.1.0,
          λ e. (by_lists lin t a).1 (refl, (refl, (refl, (refl, (refl, (ap (λ (v : Bool). v && true) e, (refl, tt))))))),
        ),
      );
      both_with = (
        end_allowed (plan_in k) (structured k k_is_good) lin_qty_lin_qty refl,
        λ t a. (
          λ h. must_have (a 1) ((by_lists lin_qty_lin_qty t a).0 h).1.1.1.1.1.1.0,
          λ e. let w : not (a 1 && true) ≡ false = ap (λ (v : Bool). not (v && true)) e in
              (by_lists lin_qty_lin_qty t a).1 (refl, (refl, (refl, (refl, (refl, (refl, (w, (w, (refl, tt))))))))),
        ),
      );
      one_of_two = (
        two_positions_allowed,
        λ t a. (
          λ h. let r = (by_lists lin_qty_lin t a).0 h in
              true≢false (sym (must_have (a 1) r.1.1.1.1.1.1.0) ∙ must_not (a 1) r.1.1.1.1.1.1.1.0),
          λ e. absurd e,
        ),
      );
    }
