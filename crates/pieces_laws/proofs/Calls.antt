-- Calls one after another: what the state is after them, told by the text and what was lent with each byte; what the next call makes; and what that leaves of
-- the starts. Of the calls it is known what they make (`PieceMakes`, `EndMakes`).
use Prim.Native.Nat.{ℕ, ◌+◌, ◌≤◌}
use native.Mathlib.Omega.{arith}
use mathlib.Core.Path.{◌≡◌, refl, sym, ap, ap₂, ◌∙◌, subst}
use mathlib.Core.Logic.{◌⊎◌, inl, inr}
use mathlib.Core.List.{List, [], ◌++◌, append-nil}
use mathlib.Core.Bool.{Bool, true, false, cond, ◌&&◌}
use lib.Dec.{leb, ltb}
use lib.ListN.{length, set, take, drop, replicate, length-append, length-replicate, length-take, take-append-drop}
use Rattle.slices.specs.meaning.Lent.{as_many_as_fit}
use Rattle.slices.specs.method.Entries.{entry}
use Rattle.reading.specs.meaning.Service.{All, GoodService}
use Rattle.reading.specs.meaning.Message.{Message}
use Rattle.reading.specs.declared.service.Service.{Service}
use Rattle.reading_laws.proofs.Lists.{all_map, all_append}
use Rattle.framing.specs.meaning.Limits.{most_bytes, most_segments}
use Rattle.framing.specs.meaning.Record as verdict
use Rattle.framing.specs.declared.verdict.Verdict.{Verdict}
use Rattle.pieces.specs.meaning.Calls.{state_length, goes_on_answer, no_state, Left, PieceCall, EndCall, Answers, Unanswered, IsVerdict}
use Rattle.pieces.specs.meaning.Starts.{Finished, StartsLeft}
use Rattle.pieces.specs.meaning.Pieces.{Read, begun, on, ReadInto, begun_in, on_in, TextSays, AlwaysAnswers, ReadAsOne}
use Rattle.pieces.specs.declared.progress.Progress.{Progress}
use Rattle.pieces.specs.method.Progress.{Held, held, held_after, reached, answer_of, is_complete}
use Rattle.pieces.specs.method.Numbers.{progress_of, numbers_of, ended}
use Rattle.pieces.specs.method.Calls.{has_ended}
use Rattle.pieces.proofs.Cases.{PieceMakes, EndMakes, piece_without_state, piece_after_end, piece_read, end_without_state, end_reached}
use Rattle.pieces_laws.specs.laws.Run.{run}
use Rattle.pieces_laws.proofs.Runs.{run_append, piece_run, all_replicate}
use Rattle.pieces_laws.proofs.Lending.{runs_alike, runs_same, stores_alike, unlent}
use Rattle.pieces_laws.proofs.OneVerdict.{one_says}
use Rattle.pieces_laws.proofs.Sound.{fresh_progress, Sound, sound_begin, sound_run}
use Rattle.pieces_laws.proofs.Finished.{sound_starts, some_finished}
use Rattle.pieces_laws.proofs.OneTable.{one_table, as_far_as_they_fit}
use Rattle.pieces_laws.proofs.Answers.{sound_answer}
use Rattle.pieces_laws.proofs.States.{kept, kept_eight, kept_fresh, kept_anew, kept_told, ended_eight, ended_is, ended_answer}

-- ---- what is answered is one of five

some_verdict : (p : Progress) → IsVerdict (answer_of p).number
unfolding answer_of
some_verdict p = go (ltb 0 p.bytes && leb p.bytes most_bytes) (is_complete p) (leb p.segments most_segments) p.lacking
  where
    go : (sized complete few lacking : Bool)
        → IsVerdict (cond sized (cond complete (cond few (cond lacking (verdict.answer 6 (entry p.segments)) (verdict.answer 0 (entry p.segments))) (verdict.answer 5 0)) (verdict.answer 4 (entry (reached p)))) (verdict.answer 3 0)).number
    go false complete few lacking = inr (inl refl)
    go true false few lacking = inr (inr (inl refl))
    go true true false lacking = inr (inr (inr (inl refl)))
    go true true true true = inr (inr (inr (inr refl)))
    go true true true false = inl refl

-- ---- room for what was lent

more_room : (n k : ℕ) (ls : List ℕ) → All (λ lent. lent ≤ n) ls → All (λ lent. lent ≤ n + k) ls
more_room n k = all_map (λ lent. lent ≤ n) (λ lent. lent ≤ n + k) (λ lent h. omega arith)

-- ---- of the calls it is known what they make

module _ (s : Service) (good : GoodService s) (Piece : PieceCall) (End : EndCall)
    (piece_makes : (state piece table entries : List ℕ) (l : Left) (left : List ℕ) → Piece state piece table entries l left
    → PieceMakes s state piece table entries l.answer l.state left l.entries)
    (end_makes : (state entries : List ℕ) (l : Left) → End state entries l → EndMakes state entries l.answer l.state l.entries) where
  -- ---- any eight numbers: once they tell of an end, they always do

  always : (state : List ℕ) → length state ≡ state_length → has_ended state ≡ true → AlwaysAnswers Piece End state (answer_of (progress_of state))
  always state eight over = record {
    piece = λ piece table entries l left call.
        let promised = piece_makes state piece table entries l left call in
        let made = piece_after_end s state piece table entries eight over in
        ((promised.0 ∙ sym made.0, promised.3 ∙ sym made.3), promised.1 ∙ sym made.1, promised.2 ∙ sym made.2);
    end = λ entries l call.
        let promised = end_makes state entries l call in
        let made = end_reached state entries eight in (
          (promised.0 ∙ sym made.0, promised.2 ∙ sym made.2),
          promised.1 ∙ sym made.1 ∙ ap (λ (b : Bool). cond b state (set state 0 1)) over,
        );
  }

  any_piece : (state piece table entries : List ℕ) (l : Left) (left : List ℕ) → length state ≡ state_length → Piece state piece table entries l left
      → Unanswered entries l goes_on_answer ⊎ ((v : Verdict) × (IsVerdict v.number × Answers entries l v × AlwaysAnswers Piece End state v))
  any_piece state piece table entries l left eight call = go (has_ended state) refl
    where
      go : (b : Bool) → has_ended state ≡ b
          → Unanswered entries l goes_on_answer ⊎ ((v : Verdict) × (IsVerdict v.number × Answers entries l v × AlwaysAnswers Piece End state v))
      go true e =
          let stays = always state eight e in
          inr (answer_of (progress_of state), (some_verdict (progress_of state), (stays.piece piece table entries l left call).0, stays))
      go false e =
          let promised = piece_makes state piece table entries l left call in
          let made = piece_read s state piece table entries eight e in
          inl (promised.0 ∙ sym made.0, promised.3 ∙ sym made.3)

  -- the verdict of an end
  end_answers : (state entries : List ℕ) (l : Left) → length state ≡ state_length → End state entries l
      → Answers entries l (answer_of (progress_of state)) × AlwaysAnswers Piece End l.state (answer_of (progress_of state))
  end_answers state entries l eight call =
      let promised = end_makes state entries l call in
      let made = end_reached state entries eight in (
        (promised.0 ∙ sym made.0, promised.2 ∙ sym made.2),
        subst (λ (numbers : List ℕ). AlwaysAnswers Piece End numbers (answer_of (progress_of state))) (sym (promised.1 ∙ sym made.1))
            (subst (AlwaysAnswers Piece End (ended state)) (ended_answer state eight) (always (ended state) (ended_eight state eight) (ended_is state eight))),
      )

  any_end : (state entries : List ℕ) (l : Left) → length state ≡ state_length → End state entries l
      → (v : Verdict) × (IsVerdict v.number × Answers entries l v × AlwaysAnswers Piece End l.state v)
  any_end state entries l eight call =
      let made = end_answers state entries l eight call in
      (answer_of (progress_of state), (some_verdict (progress_of state), made.0, made.1))

  -- ---- other numbers

  no_state_piece : (state piece table entries : List ℕ) (l : Left) (left : List ℕ) → (length state ≡ state_length → ⊥) → Piece state piece table entries l left
      → Unanswered entries l no_state × (l.state ≡ state) × (left ≡ table)
  no_state_piece state piece table entries l left wrong call =
      let promised = piece_makes state piece table entries l left call in
      let made = piece_without_state s state piece table entries wrong in
      ((promised.0 ∙ sym made.0, promised.3 ∙ sym made.3), promised.1 ∙ sym made.1, promised.2 ∙ sym made.2)

  no_state_end : (state entries : List ℕ) (l : Left) → (length state ≡ state_length → ⊥) → End state entries l → Unanswered entries l no_state × (l.state ≡ state)
  no_state_end state entries l wrong call =
      let promised = end_makes state entries l call in
      let made = end_without_state state entries wrong in
      ((promised.0 ∙ sym made.0, promised.2 ∙ sym made.2), promised.1 ∙ sym made.1)

  -- ---- from eight zeros on

  -- how far the text has come, with what was lent; no memory is needed to tell
  abbrev come : List ℕ → List ℕ → Progress
  come text lents = (run s (held fresh_progress []) text lents).progress

  record Known (text lents state : List ℕ) : Type 0 where
    long : length text ≡ length lents
    room : ℕ
    few : All (λ lent. lent ≤ room) lents
    state_is : state ≡ kept (come text lents)

  -- over a memory that has room
  sound_in : (memory text lents : List ℕ) → length text ≡ length lents → All (λ lent. lent ≤ length memory) lents
      → Sound s memory text lents (come text lents) (run s (held fresh_progress memory) text lents).starts
  sound_in memory text lents long few =
      subst (λ (p : Progress). Sound s memory text lents p (run s (held fresh_progress memory) text lents).starts) (runs_same s fresh_progress memory [] text lents)
      (sound_run s good (sound_begin s memory) text lents long few)

  module _ {text lents state : List ℕ} (k : Known text lents state) where
    abbrev roomy : List ℕ
    roomy = replicate k.room 0

    sound : Sound s roomy text lents (come text lents) (run s (held fresh_progress roomy) text lents).starts
    sound = sound_in roomy text lents k.long (subst (λ (n : ℕ). All (λ lent. lent ≤ n) lents) (sym (length-replicate k.room 0)) k.few)

    eight : length state ≡ state_length
    eight = ap length k.state_is ∙ kept_eight (come text lents)

    told : progress_of state ≡ come text lents
    told = ap progress_of k.state_is ∙ kept_told (come text lents)

    -- a piece is read
    module _ (piece table entries : List ℕ) (l : Left) (left : List ℕ) (call : Piece state piece table entries l left) where
      promised : PieceMakes s state piece table entries l.answer l.state left l.entries
      promised = piece_makes state piece table entries l left call

      made : PieceMakes s state piece table entries goes_on_answer
          (as_many_as_fit (numbers_of (held_after s (held (progress_of state) table) piece).progress) state)
          (held_after s (held (progress_of state) table) piece).starts entries
      made = piece_read s state piece table entries eight (ap (λ (p : Progress). p.ended) told ∙ sound.not_ended)

      unanswered : Unanswered entries l goes_on_answer
      unanswered = (promised.0 ∙ sym made.0, promised.3 ∙ sym made.3)

      state-then : l.state ≡ kept (held_after s (held (come text lents) table) piece).progress
      state-then =
          promised.1 ∙ sym made.1
          ∙ ap₂ (λ (p : Progress) (numbers : List ℕ). as_many_as_fit (numbers_of (held_after s (held p table) piece).progress) numbers) told k.state_is
          ∙ kept_anew (come text lents) (held_after s (held (come text lents) table) piece).progress

      left-then : left ≡ (held_after s (held (come text lents) table) piece).starts
      left-then = promised.2 ∙ sym made.2 ∙ ap (λ (p : Progress). (held_after s (held p table) piece).starts) told

      abbrev lent : List ℕ
      lent = replicate (length piece) (length table)

      come-further : (held_after s (held (come text lents) table) piece).progress ≡ come (text ++ piece) (lents ++ lent)
      come-further =
          (piece_run s (come text lents) table [] piece).0
          ∙ runs_same s (come text lents) (table ++ []) (run s (held fresh_progress []) text lents).starts piece lent
          ∙ ap (λ (x : Held). x.progress) (sym (run_append s (held fresh_progress []) text piece lents lent k.long))

      -- what is known of a text is known of the longer one
      known_on : Known (text ++ piece) (lents ++ lent) l.state
      known_on = record {
        long = length-append text piece ∙ ap₂ ◌+◌ k.long (sym (length-replicate (length piece) (length table))) ∙ sym (length-append lents lent);
        room = k.room + length table;
        few = all_append (λ n. n ≤ k.room + length table) lents lent (more_room k.room (length table) lents k.few)
            (all_replicate (λ n. n ≤ k.room + length table) (length table) (omega arith) (length piece));
        state_is = state-then ∙ ap kept come-further;
      }

  known : {text lents state : List ℕ} → Read Piece text lents state → Known text lents state
  unfolding run
  known begun = record { long = refl; room = 0; few = tt; state_is = kept_fresh }
  known (on before piece table entries l left call) = known_on (known before) piece table entries l left call

  answers_known : {text lents state : List ℕ} → Known text lents state → (entries : List ℕ) (l : Left) → End state entries l
      → (v : Verdict) × (TextSays s text lents v × Answers entries l v × AlwaysAnswers Piece End l.state v)
  answers_known {text} {lents} {state} k entries l call =
      let made = end_answers state entries l (eight k) call in
      (answer_of (progress_of state), (subst (TextSays s text lents) (ap answer_of (sym (told k))) (sound_answer s good (sound k)), made.0, made.1))

  -- ---- the starts that a call leaves: as if of its table nothing had been lent before

  module _ {text lents state : List ℕ} (k : Known text lents state) (piece table entries : List ℕ) (l : Left) (left : List ℕ)
      (call : Piece state piece table entries l left) where
    abbrev zeros : List ℕ
    zeros = replicate (length text) 0

    abbrev with_piece : List ℕ
    with_piece = replicate (length piece) (length table)

    left_is : left ≡ (run s (held fresh_progress table) (text ++ piece) (zeros ++ with_piece)).starts
    left_is =
        let unlent-so-far = run s (held fresh_progress table) text zeros in
        left-then k piece table entries l left call
        ∙ stores_alike s (come text lents) unlent-so-far.progress table piece
        (runs_alike s (held fresh_progress []) (held fresh_progress table) text lents zeros refl k.long (sym (length-replicate (length text) 0)))
        ∙ sym (append-nil (held_after s (held unlent-so-far.progress table) piece).starts)
        ∙ (piece_run s unlent-so-far.progress table [] piece).1
        ∙ ap (λ (xs : List ℕ). (run s (held unlent-so-far.progress xs) piece with_piece).starts) (append-nil table ∙ sym (unlent s fresh_progress table text))
        ∙ ap (λ (x : Held). x.starts) (sym (run_append s (held fresh_progress table) text piece zeros with_piece (sym (length-replicate (length text) 0))))

    starts_of_call : (m : Message) → Finished s (text ++ piece) m → StartsLeft s m (zeros ++ with_piece) table left
    starts_of_call m f =
        subst (StartsLeft s m (zeros ++ with_piece) table) (sym left_is)
        (sound_starts s good
        (sound_in table (text ++ piece) (zeros ++ with_piece)
        (length-append text piece ∙ ap₂ ◌+◌ (sym (length-replicate (length text) 0)) (sym (length-replicate (length piece) (length table)))
        ∙ sym (length-append zeros with_piece))
        (all_append (λ n. n ≤ length table) zeros with_piece (all_replicate (λ n. n ≤ length table) 0 (omega arith) (length text))
        (all_replicate (λ n. n ≤ length table) (length table) (omega arith) (length piece))))
        m f)

  -- ---- the starts that calls leave in one memory

  record KnownIn (memory text lents state now : List ℕ) : Type 0 where
    base : Known text lents state
    few : All (λ lent. lent ≤ length memory) lents
    now_is : now ≡ (run s (held fresh_progress memory) text lents).starts

  module _ {memory text lents state now : List ℕ} (k : KnownIn memory text lents state now) where
    in_memory : Sound s memory text lents (come text lents) (run s (held fresh_progress memory) text lents).starts
    in_memory = sound_in memory text lents k.base.long k.few

    known_in_on : (piece entries : List ℕ) (lent : ℕ) (l : Left) (left : List ℕ) → Piece state piece (take lent now) entries l left
        → KnownIn memory (text ++ piece) (lents ++ replicate (length piece) (length (take lent now))) l.state (left ++ drop lent now)
    known_in_on piece entries lent l left call = record {
      base = known_on k.base piece (take lent now) entries l left call;
      few = all_append (λ n. n ≤ length memory) lents (replicate (length piece) room) k.few (all_replicate (λ n. n ≤ length memory) room fits (length piece));
      now_is = ap (λ (xs : List ℕ). xs ++ drop lent now) (left-then k.base piece (take lent now) entries l left call)
          ∙ (piece_run s (come text lents) (take lent now) (drop lent now) piece).1
          ∙ ap₂ (λ (p : Progress) (xs : List ℕ). (run s (held p xs) piece (replicate (length piece) room)).starts)
          (runs_same s fresh_progress [] memory text lents) (take-append-drop lent now ∙ k.now_is)
          ∙ ap (λ (x : Held). x.starts) (sym (run_append s (held fresh_progress memory) text piece lents (replicate (length piece) room) k.base.long));
    }
      where
        room : ℕ
        room = length (take lent now)

        fits : room ≤ length memory
        fits = omega (arith, length-take lent now, ap length k.now_is, in_memory.told.starts.as_long)

  known_in : {memory text lents state now : List ℕ} → ReadInto Piece memory text lents state now → KnownIn memory text lents state now
  unfolding run
  known_in begun_in = record { base = record { long = refl; room = 0; few = tt; state_is = kept_fresh }; few = tt; now_is = refl }
  known_in (on_in before piece entries lent l left call) = known_in_on (known_in before) piece entries lent l left call

  -- ---- all that is asked

  pub read_as_one : ((state piece table entries : List ℕ) → (l : Left) × (left : List ℕ) × Piece state piece table entries l left)
      → ((state entries : List ℕ) → (l : Left) × End state entries l) → ReadAsOne s Piece End
  read_as_one piece_answered end_answered = record {
    words_tell = record {
      one_verdict = one_says s good;
      finished = some_finished s good;
      one_table = one_table s;
      as_far_as_they_fit = as_far_as_they_fit s good;
    };
    piece_answered = piece_answered;
    end_answered = end_answered;
    goes_on = λ r. unanswered (known r);
    answers = λ r. answers_known (known r);
    same_state = λ x y. (known x).state_is ∙ sym (known y).state_is;
    starts_of_call = λ r. starts_of_call (known r);
    starts = λ r m f. let k = known_in r in subst (StartsLeft s m _ _) (sym k.now_is) (sound_starts s good (in_memory k) m f);
    any_piece = any_piece;
    any_end = any_end;
    no_state_piece = no_state_piece;
    no_state_end = no_state_end;
  }
