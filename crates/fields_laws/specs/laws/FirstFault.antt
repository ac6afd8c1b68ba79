-- What the pass over a message answers, in terms of the test of one segment. The law first_fault_lem says that it answers this.
use Rattle.std.specs.Prelude.{ℕ, suc, ◌+◌, ◌<◌, ◌≡◌, List, Result, Ok, Err, length, get_or}
use Rattle.guide.specs.meaning.Guide.{Guide}
use Rattle.reading.specs.declared.service.Service.{Service}
use Rattle.fields.specs.meaning.Fields.{at_fault}
use Rattle.fields.specs.method.Testing.{fault_at}
use Rattle.fields.specs.declared.passes.FirstFault.{FirstFault}

-- what each answer says, k segments standing before these: each segment is tested against its own line, and none before the first
-- place has a fault
abbrev pub CleanAt : Service → Guide → List ℕ → List ℕ → List ℕ → ℕ → Type 0
CleanAt s g bs starts homes j = fault_at s g bs (get_or starts j 0) (get_or homes j 0) ≡ Ok tt

pub record FirstAt (s : Service) (g : Guide) (bs : List ℕ) (k : ℕ) (starts homes : List ℕ) (place line e c : ℕ) : Type 0 where
  pub before : ℕ
  pub counted : place ≡ suc (k + before)
  pub started : before < length starts
  pub placed : before < length homes
  pub home : get_or homes before 0 ≡ line
  pub there : fault_at s g bs (get_or starts before 0) (get_or homes before 0) ≡ at_fault e c
  pub none_before : (j : ℕ) → j < before → CleanAt s g bs starts homes j

abbrev pub FirstMeans : Service → Guide → List ℕ → ℕ → List ℕ → List ℕ → Result (Unit {0}) FirstFault → Type 0
FirstMeans s g bs k starts homes (Err x) = FirstAt s g bs k starts homes x.place x.line x.element x.component
FirstMeans s g bs k starts homes (Ok _) = (j : ℕ) → j < length starts → j < length homes → CleanAt s g bs starts homes j
