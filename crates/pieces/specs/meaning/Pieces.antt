-- Messages in pieces. 02, T-09: "Read a message in pieces cut anywhere, down to empty ones, inside a release pair or a tag, keeping no more than a small
-- state between calls." What is asked of the two calls, whatever outcomes they may have.
use Rattle.std.specs.Prelude.{ℕ, ◌≤◌, ◌<◌, ◌≡◌, ◌⊎◌, ◌↔◌, List, [], ◌++◌, length, take, drop, replicate}
use Rattle.slices.specs.meaning.Lent.{as_many_as_fit}
use Rattle.reading.specs.meaning.Message.{Message}
use Rattle.reading.specs.meaning.Starts.{starts_of}
use Rattle.reading.specs.declared.service.Service.{Service}
use Rattle.framing.specs.meaning.Limits.{most_segments}
use Rattle.framing.specs.meaning.Record.{answer}
use Rattle.pieces.specs.meaning.Table.{ReadingSays}
use Rattle.framing.specs.declared.verdict.Verdict.{Verdict}
use Rattle.pieces.specs.meaning.Calls.{state_length, goes_on_answer, no_state, Left, PieceCall, EndCall, Answers, Unanswered, IsVerdict}
use Rattle.pieces.specs.meaning.Starts.{Finished, FoundEntry, StartsLeft}

-- ---- pieces, one after the other

-- "all zeros is a message not yet begun"
abbrev pub fresh : List ℕ
fresh = replicate state_length 0

-- the text so far, how many entries were lent with each of its bytes, and the state now; each call is lent any table
pub data Read (Piece : PieceCall) : (text lents state : List ℕ) → Type 1 where
  begun : Read Piece [] [] fresh
  on : {text lents state : List ℕ} → Read Piece text lents state
      → (piece table entries : List ℕ) (l : Left) (left : List ℕ) → Piece state piece table entries l left
      → Read Piece (text ++ piece) (lents ++ replicate (length piece) (length table)) l.state

-- The same where all starts go into one memory, which was `memory` before the first piece and is `now`. Each call is lent its first so many entries, or
-- all there are if they are fewer: "a table may grow between calls".
pub data ReadInto (Piece : PieceCall) (memory : List ℕ) : (text lents state now : List ℕ) → Type 1 where
  begun_in : ReadInto Piece memory [] [] fresh memory
  on_in : {text lents state now : List ℕ} → ReadInto Piece memory text lents state now
      → (piece entries : List ℕ) (lent : ℕ) (l : Left) (left : List ℕ) → Piece state piece (take lent now) entries l left
      → ReadInto Piece memory (text ++ piece) (lents ++ replicate (length piece) (length (take lent now))) l.state (left ++ drop lent now)

-- ---- the verdict on a text

-- "It is the refusal 3, 4, 5 or 6 with its place, or the segment starts, of the whole message at once; 6 looks at the starts table alone": numbers 3 to 6
-- as the judge's own table says them, where number 6 asks whether each start found its entry
abbrev pub TextSays : Service → List ℕ → List ℕ → Verdict → Type 0
TextSays s text lents = ReadingSays (λ m. (k : ℕ) → k < length m → FoundEntry s m lents k) (λ m v. v ≡ answer 0 (length m)) s text

-- what these words come to, whatever the calls are
pub record WordsTell (s : Service) : Type 0 where
  pub one_verdict : (text lents : List ℕ) (v w : Verdict) → TextSays s text lents v → TextSays s text lents w → v ≡ w
  pub finished : (text : List ℕ) → (m : Message) × Finished s text m
  -- if one table is lent throughout, number 6 is "fewer than n entries",
  pub one_table : (text : List ℕ) (room : ℕ) (v : Verdict)
      → TextSays s text (replicate (length text) room) v ↔ ReadingSays (λ m. length m ≤ room) (λ m w. w ≡ answer 0 (length m)) s text v
  -- and the starts are left "as far as they fit"
  pub as_far_as_they_fit : (text memory now : List ℕ) (m : Message) → Finished s text m → StartsLeft s m (replicate (length text) (length memory)) memory now
      → now ≡ as_many_as_fit (take most_segments (starts_of s m)) memory

-- ---- what is asked of the two calls

-- "After the end, every further piece or end gets the end's answer and changes nothing." A call leaves the state as it was, so what holds of the
-- next one holds of all.
pub record AlwaysAnswers (Piece : PieceCall) (End : EndCall) (state : List ℕ) (v : Verdict) : Type 1 where
  pub piece : (piece table entries : List ℕ) (l : Left) (left : List ℕ) → Piece state piece table entries l left
      → Answers entries l v × (l.state ≡ state) × (left ≡ table)
  pub end : (entries : List ℕ) (l : Left) → End state entries l → Answers entries l v × (l.state ≡ state)

pub record ReadAsOne (s : Service) (Piece : PieceCall) (End : EndCall) : Type 1 where
  pub words_tell : WordsTell s
  -- "any bytes and any numbers are fine": there is an outcome
  pub piece_answered : (state piece table entries : List ℕ) → (l : Left) × (left : List ℕ) × Piece state piece table entries l left
  pub end_answered : (state entries : List ℕ) → (l : Left) × End state entries l
  -- "The answer comes when the caller ends the message"
  pub goes_on : {text lents state : List ℕ} → Read Piece text lents state
      → (piece table entries : List ℕ) (l : Left) (left : List ℕ) → Piece state piece table entries l left → Unanswered entries l goes_on_answer
  -- however the text was cut, the answer is the one of the whole, and stays so
  pub answers : {text lents state : List ℕ} → Read Piece text lents state → (entries : List ℕ) (l : Left) → End state entries l
      → (v : Verdict) × (TextSays s text lents v × Answers entries l v × AlwaysAnswers Piece End l.state v)
  -- two ways to cut the same bytes, lent alike, leave the same state
  pub same_state : {text lents one two : List ℕ} → Read Piece text lents one → Read Piece text lents two → one ≡ two
  -- A start is "written in the call that brings its segment's terminator, if the table lent in that call has the entry": as if of this table nothing had
  -- been lent with the bytes before
  pub starts_of_call : {text lents state : List ℕ} → Read Piece text lents state
      → (piece table entries : List ℕ) (l : Left) (left : List ℕ) → Piece state piece table entries l left
      → (m : Message) → Finished s (text ++ piece) m → StartsLeft s m (replicate (length text) 0 ++ replicate (length piece) (length table)) table left
  -- so that in one memory, whatever the answer will be, there are "the starts of those segments that finished before any syntax fault", and nothing else
  -- has changed
  pub starts : {memory text lents state now : List ℕ} → ReadInto Piece memory text lents state now
      → (m : Message) → Finished s text m → StartsLeft s m lents memory now
  -- "any eight numbers are a state, and get GOES_ON, 0, 3, 4, 5 or 6"; "Any further call gets the same and changes nothing"
  pub any_piece : (state piece table entries : List ℕ) (l : Left) (left : List ℕ) → length state ≡ state_length → Piece state piece table entries l left
      → Unanswered entries l goes_on_answer ⊎ ((v : Verdict) × (IsVerdict v.number × Answers entries l v × AlwaysAnswers Piece End state v))
  pub any_end : (state entries : List ℕ) (l : Left) → length state ≡ state_length → End state entries l
      → (v : Verdict) × (IsVerdict v.number × Answers entries l v × AlwaysAnswers Piece End l.state v)
  -- "reading_len is not 8; nothing changes"
  pub no_state_piece : (state piece table entries : List ℕ) (l : Left) (left : List ℕ) → (length state ≡ state_length → ⊥) → Piece state piece table entries l left
      → Unanswered entries l no_state × (l.state ≡ state) × (left ≡ table)
  pub no_state_end : (state entries : List ℕ) (l : Left) → (length state ≡ state_length → ⊥) → End state entries l
      → Unanswered entries l no_state × (l.state ≡ state)
