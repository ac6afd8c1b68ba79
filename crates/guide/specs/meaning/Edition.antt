-- The editions of a book: how many bytes its header and the records of its blocks have. Another edition is one more case here,
-- in src/edition.rt, and in the proofs of the two (sizes-within in proofs/Editions.antt is the law); nothing else knows a size.
use Rattle.std.specs.Prelude.{ℕ, List}
use Rattle.guide.specs.meaning.Header.{edition_number}

pub record Edition : Type 0 where
  -- the book's first number
  pub number : ℕ
  pub header : ℕ
  pub line : ℕ
  pub code : ℕ
  pub field : ℕ
  pub identifier : ℕ
  pub row : ℕ

-- 01: "28 + 20L + 8C + 12F + 8P + 8PL"
abbrev pub edition1 : Edition
edition1 = record { number = 1; header = 28; line = 20; code = 8; field = 12; identifier = 8; row = 8 }

-- the edition that a book of this first number is read as: edition 1 where there is none of the number, so that any bytes say
-- something (a good book has the number of its edition). Shut: what a proof needs of the sizes, sizes-within says.
unfoldable pub edition_numbered : ℕ → Edition
edition_numbered number = edition1

abbrev pub edition_of : List ℕ → Edition
edition_of bs = edition_numbered (edition_number bs)
