-- What is read is spelled so, and what is spelled so is read.
use Rattle.std.proofs.Common.{◌≡◌, ℕ, ◌^◌, true, List, ◌∷◌, ◌++◌, Option, Some, None, refl, sym, ap, ◌∙◌, arith}
use Rattle.std.specs.Prelude.{codes, decimal, nat_lt, MatchOption}
use Rattle.std.proofs.lemmas.Bool.{ltb-true, lt-ltb}
use Rattle.std.proofs.lemmas.Option.{same_Some, none-some}
use Rattle.adya_keys.specs.Meaning.Keys.{is_key, is_value, IsTxn, IsMod}
use Rattle.adya_line.specs.Meaning.Spelling.{txn_text}
use Rattle.adya_line.specs.Laws.{IsReaderOf}
use Rattle.adya_line.specs.Computing.Reading.{Gives, txn_at_line}
use Rattle.ssi_store.specs.Meaning.Sessions.{is_session}
use Rattle.ssi_store.specs.Meaning.Courses.{Command, Begin, Get, Put, Del, Scan, ScanFirst, Commit, Abort, Collect, Stat}
use Rattle.ssi_line.specs.declared.line.Line.{Line as LineValue}
use Rattle.ssi_line.specs.Meaning.Spelling.{command_text, IsCommand, Line, Do, Stop, Dump, line_text, IsLine, IsLineOf, IsNoLine}
use Rattle.ssi_line.specs.Clauses.Reading.{line_of, IsOnlyLineOf}
use Rattle.ssi_line.specs.Computing.Reading.{cut, is_word, one_word, of_session, of_key, limit_at, limited, scan_at, of_more}
use Rattle.ssi_line.specs.Computing.Reading.{by_key, with_key, by_session, command_at, by_word, line_at}
use Rattle.ssi_line.proofs.Options.{Only, nothing, found, weaken, then, either_by}
use Rattle.ssi_line.proofs.Words.{same_word, joined, cut_joins, session_cut, session_last, key_cut, key_last}

-- a number is read exactly from its digits
abbrev pub NumbersAreRead : Type 0
NumbersAreRead = IsReaderOf txn_at_line IsTxn txn_text

-- the line is that of the command
abbrev pub Spells : List ℕ → Command → Type 0
Spells line c = (line ≡ command_text c) × IsCommand c

-- ---- what is read is spelled so

one_word_takes : (word : List ℕ) → Only (one_word word) (λ x. IsLineOf x word)
unfolding one_word
one_word_takes word =
    either_by (is_word word (codes "stop")) (λ e. found Stop (record { good = tt; same = same_word word (codes "stop") e }))
    (either_by (is_word word (codes "dump")) (λ e. found Dump (record { good = tt; same = same_word word (codes "dump") e }))
    (either_by (is_word word (codes "collect"))
    (λ e. found (Do Collect) (record { good = tt; same = same_word word (codes "collect") e }))
    (either_by (is_word word (codes "stat"))
    (λ e. found (Do Stat) (record { good = tt; same = same_word word (codes "stat") e })) nothing)))

-- another first word
with_word : (word other rest : List ℕ) → is_word word other ≡ true → word ++ (32 ∷ rest) ≡ other ++ (32 ∷ rest)
with_word word other rest e = ap (λ (w : List ℕ). w ++ (32 ∷ rest)) (same_word word other e)

of_session_takes : (word s : List ℕ) → is_session s ≡ true → Only (of_session word s) (Spells (word ++ (32 ∷ s)))
unfolding of_session
of_session_takes word s is_s =
    either_by (is_word word (codes "begin")) (λ e. found (Begin s) (with_word word (codes "begin") s e, is_s))
    (either_by (is_word word (codes "commit")) (λ e. found (Commit s) (with_word word (codes "commit") s e, is_s))
    (either_by (is_word word (codes "abort")) (λ e. found (Abort s) (with_word word (codes "abort") s e, is_s)) nothing))

of_key_takes : (word s k : List ℕ) → is_session s ≡ true → is_key k ≡ true
    → Only (of_key word s k) (Spells (word ++ (32 ∷ (s ++ (32 ∷ k)))))
unfolding of_key
of_key_takes word s k is_s is_k =
    either_by (is_word word (codes "get"))
    (λ e. found (Get s k) (with_word word (codes "get") (s ++ (32 ∷ k)) e, (is_s, is_k)))
    (either_by (is_word word (codes "del"))
    (λ e. found (Del s k) (with_word word (codes "del") (s ++ (32 ∷ k)) e, (is_s, is_k))) nothing)

number_takes : NumbersAreRead → (text : List ℕ) (o : Option ℕ) → txn_at_line text ≡ o
    → Only o (λ n. IsTxn n × (text ≡ decimal n))
number_takes law text None e = nothing
number_takes law text (Some n) e = found n ((law text n).0 e)

limit_takes : NumbersAreRead → (text : List ℕ) → Only (limit_at text) (λ n. (text ≡ decimal n) × IsMod n)
unfolding limit_at
limit_takes law text =
    then (number_takes law text (txn_at_line text) refl) (λ (n : ℕ) h.
    either_by (nat_lt n (2 ^ 16)) (λ e. found n (h.1, (h.0.0, ltb-true n (2 ^ 16) e))) nothing)

limited_takes : NumbersAreRead → (s low high : List ℕ) (rest : Option (List ℕ)) → is_session s ≡ true → is_key low ≡ true
    → is_key high ≡ true
    → Only (limited s low high rest) (Spells (codes "scan" ++ (32 ∷ (s ++ (32 ∷ (low ++ (32 ∷ joined high rest)))))))
limited_takes law s low high None is_s is_low is_high = found (Scan s low high) (refl, (is_s, is_low, is_high))
limited_takes law s low high (Some rest) is_s is_low is_high =
    then (limit_takes law rest) (λ (n : ℕ) h.
    found (ScanFirst s low high n) (
      ap (λ (l : List ℕ). codes "scan" ++ (32 ∷ (s ++ (32 ∷ (low ++ (32 ∷ (high ++ (32 ∷ l)))))))) h.0,
      (is_s, is_low, is_high, h.1),
    ))

scan_takes : NumbersAreRead → (s low rest : List ℕ) → is_session s ≡ true → is_key low ≡ true
    → Only (scan_at s low rest) (Spells (codes "scan" ++ (32 ∷ (s ++ (32 ∷ (low ++ (32 ∷ rest)))))))
unfolding scan_at
scan_takes law s low rest is_s is_low =
    either_by (is_key (cut rest).0)
    (λ is_high.
    weaken (limited_takes law s low (cut rest).0 (cut rest).1 is_s is_low is_high) (λ (c : Command) h.
    (ap (λ (l : List ℕ). codes "scan" ++ (32 ∷ (s ++ (32 ∷ (low ++ (32 ∷ l)))))) (cut_joins rest) ∙ h.0, h.1)))
    nothing

of_more_takes : NumbersAreRead → (word s k rest : List ℕ) → is_session s ≡ true → is_key k ≡ true
    → Only (of_more word s k rest) (Spells (word ++ (32 ∷ (s ++ (32 ∷ (k ++ (32 ∷ rest)))))))
unfolding of_more
of_more_takes law word s k rest is_s is_k =
    either_by (is_word word (codes "put"))
    (λ e. either_by (is_value rest)
    (λ is_v. found (Put s k rest)
    (with_word word (codes "put") (s ++ (32 ∷ (k ++ (32 ∷ rest)))) e, (is_s, is_k, is_v)))
    nothing)
    (either_by (is_word word (codes "scan"))
    (λ e. weaken (scan_takes law s k rest is_s is_k) (λ (c : Command) h.
    (with_word word (codes "scan") (s ++ (32 ∷ (k ++ (32 ∷ rest)))) e ∙ h.0, h.1)))
    nothing)

by_key_takes : NumbersAreRead → (word s k : List ℕ) (rest : Option (List ℕ)) → is_session s ≡ true → is_key k ≡ true
    → Only (by_key word s k rest) (Spells (word ++ (32 ∷ (s ++ (32 ∷ joined k rest)))))
by_key_takes law word s k None is_s is_k = of_key_takes word s k is_s is_k
by_key_takes law word s k (Some rest) is_s is_k = of_more_takes law word s k rest is_s is_k

with_key_takes : NumbersAreRead → (word s rest : List ℕ) → is_session s ≡ true
    → Only (with_key word s rest) (Spells (word ++ (32 ∷ (s ++ (32 ∷ rest)))))
unfolding with_key
with_key_takes law word s rest is_s =
    either_by (is_key (cut rest).0)
    (λ is_k.
    weaken (by_key_takes law word s (cut rest).0 (cut rest).1 is_s is_k) (λ (c : Command) h.
    (ap (λ (l : List ℕ). word ++ (32 ∷ (s ++ (32 ∷ l)))) (cut_joins rest) ∙ h.0, h.1)))
    nothing

by_session_takes : NumbersAreRead → (word s : List ℕ) (rest : Option (List ℕ)) → is_session s ≡ true
    → Only (by_session word s rest) (Spells (word ++ (32 ∷ joined s rest)))
by_session_takes law word s None is_s = of_session_takes word s is_s
by_session_takes law word s (Some rest) is_s = with_key_takes law word s rest is_s

command_takes : NumbersAreRead → (word rest : List ℕ) → Only (command_at word rest) (Spells (word ++ (32 ∷ rest)))
unfolding command_at
command_takes law word rest =
    either_by (is_session (cut rest).0)
    (λ is_s.
    weaken (by_session_takes law word (cut rest).0 (cut rest).1 is_s) (λ (c : Command) h.
    (ap (λ (l : List ℕ). word ++ (32 ∷ l)) (cut_joins rest) ∙ h.0, h.1)))
    nothing

by_word_takes : NumbersAreRead → (word : List ℕ) (rest : Option (List ℕ))
    → Only (by_word word rest) (λ x. IsLineOf x (joined word rest))
by_word_takes law word None = one_word_takes word
by_word_takes law word (Some rest) =
    then (command_takes law word rest) (λ (c : Command) h. found (Do c) (record { good = h.1; same = h.0 }))

line_takes : NumbersAreRead → (text : List ℕ) → Only (line_at text) (λ x. IsLineOf x text)
unfolding line_at
line_takes law text =
    weaken (by_word_takes law (cut text).0 (cut text).1) (λ (x : Line) h.
    record { good = h.good; same = cut_joins text ∙ h.same })

-- ---- what is spelled so is read

limit_again : NumbersAreRead → (n : ℕ) → IsMod n → limit_at (decimal n) ≡ Some n
unfolding limit_at
limit_again law n is =
    let read : txn_at_line (decimal n) ≡ Some n = (law (decimal n) n).1 ((is.0, omega arith), refl) in
    rw (read, lt-ltb n (2 ^ 16) is.1) refl

put_again : (s k v : List ℕ) → is_session s ≡ true → is_key k ≡ true → is_value v ≡ true
    → command_at (codes "put") (s ++ (32 ∷ (k ++ (32 ∷ v)))) ≡ Some (Put s k v)
unfolding command_at with_key of_more
put_again s k v is_s is_k is_v =
    rw (session_cut s (k ++ (32 ∷ v)) is_s, is_s, key_cut k v is_k, is_k, is_v) refl

scan_again : (s low high : List ℕ) → is_session s ≡ true → is_key low ≡ true → is_key high ≡ true
    → command_at (codes "scan") (s ++ (32 ∷ (low ++ (32 ∷ high)))) ≡ Some (Scan s low high)
unfolding command_at with_key of_more scan_at
scan_again s low high is_s is_low is_high =
    rw (
      session_cut s (low ++ (32 ∷ high)) is_s,
      is_s,
      key_cut low high is_low,
      is_low,
      key_last high is_high,
      is_high,
    ) refl

first_again : NumbersAreRead → (s low high : List ℕ) (n : ℕ) → is_session s ≡ true → is_key low ≡ true
    → is_key high ≡ true → IsMod n
    → command_at (codes "scan") (s ++ (32 ∷ (low ++ (32 ∷ (high ++ (32 ∷ decimal n)))))) ≡ Some (ScanFirst s low high n)
unfolding command_at with_key of_more scan_at
first_again law s low high n is_s is_low is_high is_n =
    rw (
      session_cut s (low ++ (32 ∷ (high ++ (32 ∷ decimal n)))) is_s,
      is_s,
      key_cut low (high ++ (32 ∷ decimal n)) is_low,
      is_low,
      key_cut high (decimal n) is_high,
      is_high,
      limit_again law n is_n,
    ) refl

pair_again : (s k : List ℕ) → is_session s ≡ true → is_key k ≡ true → (word : List ℕ)
    → command_at word (s ++ (32 ∷ k)) ≡ of_key word s k
unfolding command_at with_key
pair_again s k is_s is_k word = rw (session_cut s k is_s, is_s, key_last k is_k, is_k) refl

alone_again : (s : List ℕ) → is_session s ≡ true → (word : List ℕ) → command_at word s ≡ of_session word s
unfolding command_at
alone_again s is_s word = rw (session_last s is_s, is_s) refl

line_again : NumbersAreRead → (x : Line) → IsLine x → line_at (line_text x) ≡ Some x
unfolding line_at one_word of_session of_key cut
line_again law Stop is = refl
line_again law Dump is = refl
line_again law (Do (Begin s)) is = rw (alone_again s is (codes "begin")) refl
line_again law (Do (Commit s)) is = rw (alone_again s is (codes "commit")) refl
line_again law (Do (Abort s)) is = rw (alone_again s is (codes "abort")) refl
line_again law (Do (Get s k)) is = rw (pair_again s k is.0 is.1 (codes "get")) refl
line_again law (Do (Del s k)) is = rw (pair_again s k is.0 is.1 (codes "del")) refl
line_again law (Do (Put s k v)) is = rw (put_again s k v is.0 is.1 is.2) refl
line_again law (Do (Scan s low high)) is = rw (scan_again s low high is.0 is.1 is.2) refl
line_again law (Do (ScanFirst s low high n)) is = rw (first_again law s low high n is.0 is.1 is.2 is.3) refl
line_again law (Do Collect) is = refl
line_again law (Do Stat) is = refl

-- ---- what the reader's answer says

again : NumbersAreRead → (text : List ℕ) (x : Line) → IsLineOf x text → line_at text ≡ Some x
again law text x is = ap line_at is.same ∙ line_again law x is.good

pub exact : NumbersAreRead → (text : List ℕ) (result : Option LineValue) → Gives line_of result (line_at text)
    → MatchOption result (IsNoLine text) (λ x. IsOnlyLineOf (line_of x) text)
exact law text (Some r) gives = record {
  line = let t = (line_takes law text).holds in rw gives at t;
  only = λ y is. same_Some y (line_of r) (sym (again law text y is) ∙ gives);
}
exact law text None gives = λ x is. none-some x (sym gives ∙ again law text x is)

-- a line asks for one thing
pub one_line : NumbersAreRead → (x y : Line) (text : List ℕ) → IsLineOf x text → IsLineOf y text → x ≡ y
one_line law x y text is_x is_y = same_Some x y (sym (again law text x is_x) ∙ again law text y is_y)
