-- What is known where nothing is refused: the book is good, the message well-formed and placed, the tables have room.
use Prim.Native.Nat.{ℕ, ◌≤◌}
use native.Mathlib.Omega.{arith}
use mathlib.Core.Path.{◌≡◌, sym, ap, ◌∙◌, subst}
use mathlib.Core.List.{List}
use lib.ListN.{length}
use borrow.Author.Tests.{leb-true}
use Rattle.book.specs.meaning.GoodBook.{GoodBook}
use Rattle.framing.specs.meaning.Limits.{most_bytes, most_segments}
use Rattle.reading.specs.meaning.Service.{GoodService}
use Rattle.reading.specs.meaning.WellFormed.{WellFormed}
use Rattle.reading.specs.declared.service.Service.{Service}
use Rattle.reading_laws.proofs.FirstBad.{scan_accepts}
use Rattle.guide.specs.meaning.Plan.{plan_in}
use Rattle.placing.specs.meaning.Fitting.{homes_in}
use Rattle.placing.specs.meaning.Placement.{Placed}
use Rattle.placing.specs.meaning.Answers.{HaveHomes}
use Rattle.placing.specs.method.Passes.{homes_from, tested}
use Rattle.std.specs.Prelude.{Ok}
use Rattle.placing_laws.proofs.Structured.{structured}
use Rattle.placing_laws.proofs.Messages.{found_homes}
use Rattle.placing_laws.proofs.Stopping.{tested_allowed}
use Rattle.framing.specs.meaning.Record.{answer}
use Rattle.framing.specs.method.Stages.{frame_of}
use Rattle.book.specs.method.Each.{is_good}
use Rattle.judging.specs.method.Table.{refusal}
use Rattle.framing.specs.meaning.Table.{HasRoom}
use Rattle.framing.specs.declared.message.Room.{Room}
use Rattle.framing.specs.declared.verdict.Verdict.{Verdict}
use Rattle.book.proofs.Tested.{good_exactly}
use Rattle.demands.proofs.TableTells.{framed_ends}
use Rattle.framing.proofs.Messages.{sized_within}
use Rattle.framing.proofs.Passing.{passes, fault, room_exactly}
use Rattle.judging.proofs.Decided.{ClearStages, clear_stages}

-- ---- all that is not refused

pub record Clear (s : Service) (bs book : List ℕ) (room : Room) (v : Verdict) : Type 0 where
  pub good : GoodBook book
  pub within : length bs ≤ most_bytes
  pub well_formed : WellFormed s bs
  pub few : length well_formed.message ≤ most_segments
  pub roomy : HasRoom room (length well_formed.message)
  pub have_homes : HaveHomes (homes_in book well_formed.message)
  pub placed : Placed (plan_in book) (homes_in book well_formed.message)
  pub same : v ≡ answer 0 (length well_formed.message)

-- the book is good, whatever the service characters
pub good_where_clear : (s : Service) (bs book cs : List ℕ) (room : Room) → (refusal s bs book cs room).number ≡ 0 → GoodBook book
good_where_clear s bs book cs room e =
    (good_exactly book).0 (passes (is_good book) (answer 1 0) (answer 0 0) (fault (omega arith)) (clear_stages s bs book cs room e).book_passed)

module _ (s : Service) (service : GoodService s) (bs book cs : List ℕ) (room : Room) where
  pub clear : (refusal s bs book cs room).number ≡ 0 → Clear s bs book room (refusal s bs book cs room)
  clear e = go (good_where_clear s bs book cs room e) (clear_stages s bs book cs room e)
    where
      go : GoodBook book → ClearStages s bs book cs room → Clear s bs book room (refusal s bs book cs room)
      go good stages =
          let c = stages.message_passed in
          let found = (scan_accepts s service bs c.segments).0 c.scan in
          let w = found.0 in
          let long : c.segments ≡ length w.message = sym found.1 in
          let homes = found_homes s service bs w book good in
          let ends = framed_ends s service bs book good w c.last (ap (frame_of s bs) (sym long) ∙ c.frame) in
          let begins : tested (plan_in book) (homes_in book w.message) ≡ Ok tt =
          sym (ap (λ (k : ℕ). tested (plan_in book) (homes_from s bs book k 0)) long ∙ ap (tested (plan_in book)) homes) ∙ stages.placing_passed in
          let allowed = (tested_allowed (plan_in book) (structured book good) (homes_in book w.message) ends).0 begins in
          let few' = leb-true c.segments most_segments c.few in
          record {
            good = good;
            within = sized_within bs c.sized;
            well_formed = w;
            few = omega arith;
            roomy = subst (HasRoom room) long ((room_exactly room c.segments).0 c.roomy);
            have_homes = allowed.0;
            placed = allowed.1;
            same = stages.same ∙ ap (answer 0) long;
          }
