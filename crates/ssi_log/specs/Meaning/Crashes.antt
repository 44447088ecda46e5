-- What a crash leaves of a file whose text this is.
use Rattle.std.specs.Prelude.{◌≡◌, ◌<◌, ℕ, List, length}
use Rattle.sqlite_disk.specs.Disk.{Only}
use Rattle.ssi_log.specs.Meaning.Texts.{IsFrontOf, text_of}

-- whenever a crash comes, what is left has a front of the text, with so many of its first bytes
abbrev pub Keeps : (List ℕ → Type 0) → List ℕ → ℕ → Type 0
Keeps may_leave text sure = (file : List ℕ) → may_leave file → IsFrontOf text sure (text_of file)

-- a file that was opened has this text, which a zero ends, and a crash leaves nothing else
pub record Finds (seen : List ℕ) (may_leave : List ℕ → Type 0) (text : List ℕ) : Type 0 where
  pub text_is : text_of seen ≡ text
  pub ended : length text < length seen
  pub only : Only seen may_leave
