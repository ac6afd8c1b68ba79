-- The rules of a Prüfidentifikator, said of the placement tree. 01: "Rows apply once per instance of the line's parent (once for the
-- root). A line is present there if it has at least one segment or instance." The law rules_on_tree (rules_laws/proofs/OnTree.antt) says that
-- in a good book no row of rules/specs/meaning/Entries.antt is broken then, and only then.
use Rattle.std.specs.Prelude.{ℕ, suc, ◌≡◌, Bool, true, false, leb}
use Rattle.guide.specs.meaning.Guide.{Guide}
use Rattle.guide.specs.meaning.View.{row_of}
use Rattle.guide.specs.meaning.Plan.{plan_of, Of}
use Rattle.placing.specs.meaning.Placement.{Contents, nothing, segment, instance, count}
use Rattle.rules.specs.meaning.Conditions.{Assignment}
use Rattle.rules.specs.meaning.Rows.{expression, is_broken}

-- "at least one segment or instance", in the instance that holds ks
abbrev pub has_line : ℕ → Contents → Bool
has_line l ks = leb 1 (count l ks)

-- of the Prüfidentifikator with number p, under an assignment
module _ (g : Guide) (p : ℕ) (a : Assignment) where
  -- line l keeps its row in an instance of its parent, where it is present or not
  abbrev pub KeepsRow : ℕ → Bool → Type 0
  KeepsRow l present = is_broken (row_of g p l).mode present (expression (row_of g p l) a) ≡ false

  -- the further lines of o (a group, or 0 for the message) keep their rows in one instance, which holds ks
  abbrev pub LinesKeep : ℕ → Contents → Type 0
  LinesKeep o ks = (l : ℕ) → Of (plan_of g) o l → KeepsRow l (has_line l ks)

  -- "once per instance": so they do in every instance among these, and in those further in; its trigger is present in each
  abbrev pub InstancesKeep : Contents → Type 0
  InstancesKeep nothing = Unit {0}
  InstancesKeep (segment ks l) = InstancesKeep ks
  InstancesKeep (instance ks o inner) = InstancesKeep ks × KeepsRow (suc o) true × LinesKeep o inner × InstancesKeep inner

  -- "(once for the root)": the whole message
  abbrev pub RulesHold : Contents → Type 0
  RulesHold tree = LinesKeep 0 tree × InstancesKeep tree
