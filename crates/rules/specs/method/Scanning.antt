-- The first row as the code finds it, for any book, conditions and homes: line by line, in one pass over the homes, with what a row
-- comes to worked out once for a line. The law scanned (rules_laws/proofs/Scanned.antt) says that in a good book, for the homes of a placed
-- message, this is the first row of rules_laws/specs/laws/FirstFound.antt.
use Rattle.std.specs.Prelude.{ℕ, zero, suc, List, [], ◌∷◌, Bool, true, false, not, cond, ◌&&◌, ◌||◌, eqb, ltb, Result, Ok, Err}
use Rattle.guide.specs.meaning.Guide.{Guide}
use Rattle.guide.specs.meaning.View.{Row, row_of, in_use}
use Rattle.guide.specs.meaning.Words.{any_joint}
use Rattle.guide.specs.meaning.Plan.{plan_of, opening}
use Rattle.guide.specs.meaning.Tree.{owner}
use Rattle.rules.specs.meaning.Conditions.{told, is_unknown}
use Rattle.rules.specs.meaning.Rows.{condition_number, literal, conditions_of, is_broken}
use Rattle.rules.specs.meaning.Instances.{shown_by, place_in}
use Rattle.rules.specs.declared.breach.Breach.{Breach}
use Rattle.rules.specs.declared.breach.Breach.TheVariants.{Never, Always, Sometimes}
use Rattle.rules.specs.declared.watch.Watch.{Watch}
use Rattle.rules.specs.declared.finding.Finding.{Finding}
use Rattle.rules.specs.declared.finding.Finding.TheVariants.{Broken, Unsettled}

-- ---- two readings of a row: every literal of an unknown condition is false, and every one is true

abbrev pub guessed : List ℕ → Bool → ℕ → Bool
guessed cs guess x = cond (is_unknown cs (condition_number x)) guess (literal (told cs) x)

-- 01: "Joint 1 is all, 2 is any"
abbrev pub joined : Bool → Bool → Bool → Bool
joined any v w = cond any (v || w) (v && w)

unfoldable pub reading : Bool → List ℕ → Bool → List ℕ → Bool
reading any cs guess [] = not any
reading any cs guess (x ∷ xs) = joined any (guessed cs guess x) (reading any cs guess xs)

abbrev pub read_row : List ℕ → Bool → Row → Bool
read_row cs guess w = reading (eqb w.joint any_joint) cs guess (in_use w.conditions)

-- the first of these that is unknown, 0 if there is none
unfoldable pub first_unknown : List ℕ → List ℕ → ℕ
first_unknown cs [] = 0
first_unknown cs (k ∷ ks) = cond (is_unknown cs k) k (first_unknown cs ks)

-- broken in no filling, in every one, or in some only (law exact_outcome)
abbrev pub weighed : Bool → Bool → ℕ → Breach
weighed true true k = Always
weighed true false k = Sometimes k
weighed false true k = Sometimes k
weighed false false k = Never

abbrev pub breach_of : List ℕ → Row → Bool → Breach
breach_of cs w present =
    weighed (is_broken w.mode present (read_row cs false w)) (is_broken w.mode present (read_row cs true w)) (first_unknown cs (conditions_of w))

-- 01: "Rows of required lines have mode 1"; and a placed message has such a line in every instance: there is nothing to look for
abbrev pub breach_in : Guide → ℕ → List ℕ → ℕ → Bool → Breach
breach_in g p cs l present = cond (eqb (g.required l) 1) Never (breach_of cs (row_of g p l) present)

-- ---- what a pass over the homes watches for: the triggers of the line's parent (home 0, which no segment has, for the message),
-- the segments that show the line, and what its row comes to where it is present and where it is not

abbrev pub watch_of : Guide → ℕ → List ℕ → ℕ → Watch
watch_of g p cs l =
    record {
      trigger = opening (owner (plan_of g) l);
      sign = shown_by (plan_of g) l;
      present = breach_in g p cs l true;
      absent = breach_in g p cs l false;
    }

abbrev pub is_never : Breach → Bool
is_never Never = true
is_never Always = false
is_never (Sometimes k) = false

-- no instance can break the row
abbrev pub is_idle : Watch → Bool
is_idle w = is_never w.present && is_never w.absent

-- ---- the instances, each with the first segment in it that shows the line, 0 if there is none

pub record Instance : Type 0 where
  pub trigger : ℕ
  pub seen : ℕ

abbrev pub instance_of : ℕ → ℕ → Instance
instance_of t seen = record { trigger = t; seen = seen }

-- the first one seen stays: segment j has home h
abbrev pub noted : ℕ → ℕ → ℕ → ℕ → ℕ
noted h sign seen j = cond (eqb h sign && eqb seen 0) j seen

-- an instance begins with its trigger, which may itself show the line
abbrev pub begun : ℕ → ℕ → ℕ → ℕ
begun trigger sign t = cond (eqb trigger sign) t 0

-- from instance t on, where `seen` has been seen in it and segment j comes next: each ends before the next trigger
unfoldable pub instances_from : ℕ → ℕ → ℕ → ℕ → ℕ → List ℕ → List Instance
instances_from trigger sign t seen j [] = instance_of t seen ∷ []
instances_from trigger sign t seen j (h ∷ hs) =
    cond (eqb h trigger) (instance_of t seen ∷ instances_from trigger sign j (begun trigger sign j) (suc j) hs)
    (instances_from trigger sign t (noted h sign seen j) (suc j) hs)

abbrev pub behind_first : List Instance → List Instance
behind_first [] = []
behind_first (i ∷ is) = is

-- the message is one instance; what stands before the first trigger of a group is none of its
abbrev pub instances_in : ℕ → ℕ → List ℕ → List Instance
instances_in trigger sign hs =
    cond (eqb trigger 0) (instances_from trigger sign 0 0 1 hs) (behind_first (instances_from trigger sign 0 0 1 hs))

-- ---- line by line, instance by instance, up to the first row that is not kept

-- nothing, or the first row that is not kept
abbrev pub Outcome : Type 0
Outcome = Result (Unit {0}) Finding

abbrev pub report_of : Breach → ℕ → ℕ → Outcome
report_of Never place line = Ok tt
report_of Always place line = Err (Broken place line)
report_of (Sometimes k) place line = Err (Unsettled place line k)

abbrev pub report_in : Watch → ℕ → Instance → Outcome
report_in w l i = report_of (cond (eqb i.seen 0) w.absent w.present) (place_in i.trigger i.seen) l

abbrev pub first_found : Outcome → Outcome → Outcome
first_found (Ok nothing) rest = rest
first_found (Err found) rest = Err found

unfoldable pub scanned_in : Watch → ℕ → List Instance → Outcome → Outcome
scanned_in w l [] rest = rest
scanned_in w l (i ∷ is) rest = first_found (report_in w l i) (scanned_in w l is rest)

-- a line that no instance can break is passed over
abbrev pub scanned_line : Watch → ℕ → List ℕ → Outcome → Outcome
scanned_line w l hs rest = cond (is_idle w) rest (scanned_in w l (instances_in w.trigger w.sign hs) rest)

unfoldable pub scanned_from : Guide → ℕ → List ℕ → List ℕ → ℕ → ℕ → Outcome
scanned_from g p cs hs l zero = Ok tt
scanned_from g p cs hs l (suc count) = scanned_line (watch_of g p cs l) l hs (scanned_from g p cs hs (suc l) count)

-- of a Prüfidentifikator that the book does not have there are no rows
abbrev pub scanned_row : Guide → ℕ → List ℕ → List ℕ → Outcome
scanned_row g p cs hs = cond (ltb p g.identifiers) (scanned_from g p cs hs 1 g.lines) (Ok tt)
