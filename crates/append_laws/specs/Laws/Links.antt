-- The few links that a checker makes between transactions. All precedences follow from them.
use Rattle.std.specs.Prelude.{◌≡◌, ◌≢◌, ◌<◌, ◌==◌, ◌⊎◌, ℕ, List, [], ◌∷◌, ◌++◌, Contains, count_by, flat_map, filter, length, nat_lt}
use Rattle.append_values.specs.Meaning.Histories.{Operation, History, outcome}
use Rattle.append_values.specs.Meaning.Runs.{Occurs, Explains}
use Rattle.append_values.specs.Meaning.Reads.{appended, own, HasRead, AppendersDiffer, IsPrefixOf, left}
use Rattle.append_values.specs.Meaning.Reasons.{Precedes}
use Rattle.append_laws.specs.Laws.Explanations.{IsWhole}
use Rattle.digraph.specs.Clauses.Graphs.{IsBefore}

-- a read shows the first writers of a line, whole, and then its transaction's own appends so far. If its transaction appends
-- to the key, it is the line's next writer
pub record IsInLine (h : History) (line : List ℕ) (t k : ℕ) (xs : List ℕ) (before : List Operation) : Type 0 where
  pub writers : List ℕ
  pub rest : List ℕ
  pub cuts : line ≡ writers ++ rest
  pub splits : xs ≡ flat_map (own h k) writers ++ appended k before
  pub others : Contains writers t → ⊥
  pub next : (x : ℕ) → Contains (own h k t) x → (more : List ℕ) × (rest ≡ t ∷ more)

-- transactions that append to a key, each once, in an order that all reads of the key agree with
pub record IsLine (h : History) (k : ℕ) (line : List ℕ) : Type 0 where
  pub once : (u : ℕ) → count_by (λ w. w == u) line < 2
  pub append : (u : ℕ) → Contains line u → (x : ℕ) × Contains (own h k u) x
  pub reads : (t : ℕ) (xs : List ℕ) (before : List Operation) → HasRead h t k xs before → IsInLine h line t k xs before

-- an order of nodes goes forward along the links of a key. The nodes are the transactions, and a helper node for the end of
-- the key's line
pub record GoesForward (h : History) (k : ℕ) (line : List ℕ) (is_line : IsLine h k line) (end : ℕ) (ns : List ℕ) : Type 0 where
  -- from each writer of the line to the next one, and from the last one to the end
  pub neighbours : (front back : List ℕ) (u v : ℕ) → line ≡ front ++ u ∷ v ∷ back → IsBefore ns u v
  pub last : (front : List ℕ) (u : ℕ) → line ≡ front ++ u ∷ [] → IsBefore ns u end
  -- from the last writer that a read shows to the reader
  pub shown : (t : ℕ) (xs : List ℕ) (before : List Operation) (r : HasRead h t k xs before) (front : List ℕ) (u : ℕ)
      → (is_line.reads t xs before r).writers ≡ front ++ u ∷ [] → IsBefore ns u t
  -- from the reader to the next writer, or to the end, if the read shows the whole line
  pub not_shown : (t : ℕ) (xs : List ℕ) (before : List Operation) (r : HasRead h t k xs before) (v : ℕ) (more : List ℕ)
      → (is_line.reads t xs before r).rest ≡ v ∷ more → t ≢ v → IsBefore ns t v
  pub all_shown : (t : ℕ) (xs : List ℕ) (before : List Operation) (r : HasRead h t k xs before)
      → (is_line.reads t xs before r).rest ≡ [] → IsBefore ns t end
  -- from the end to each transaction that appends to the key and isn't in the line
  pub unseen : (v x : ℕ) → Contains (own h k v) x → (Contains line v → ⊥) → IsBefore ns end v

abbrev pub IsRead : History → ℕ → Type 0
IsRead h k = (t : ℕ) × (xs : List ℕ) × (before : List Operation) × HasRead h t k xs before

-- each key that was read has a line, and the order goes forward along its links
abbrev pub AllGoForward : History → (ℕ → List ℕ) → (ℕ → ℕ) → List ℕ → Type 0
AllGoForward h line end ns = (k : ℕ) → IsRead h k → (is_line : IsLine h k (line k)) × GoesForward h k (line k) is_line (end k) ns

-- an order that goes forward along the links respects all precedences
abbrev pub LinksSuffice : Type 0
LinksSuffice = (h : History) (line : ℕ → List ℕ) (end : ℕ → ℕ) (ns : List ℕ) (u v : ℕ) → AppendersDiffer h
    → AllGoForward h line end ns → Precedes h u v → IsBefore ns u v

-- the nodes that are transactions
abbrev pub without_helpers : History → List ℕ → List ℕ
without_helpers h ns = filter (λ u. nat_lt u (length h)) ns

-- so without the helper nodes it explains the history, if it lists the right transactions
abbrev pub LinksExplain : Type 0
LinksExplain = (h : History) (line : ℕ → List ℕ) (end : ℕ → ℕ) (ns : List ℕ) → AppendersDiffer h
    → AllGoForward h line end ns → ((t : ℕ) → Occurs (outcome h t) (count_by (λ u. u == t) (without_helpers h ns)))
    → Explains (without_helpers h ns) h

-- a transaction read the whole line, or read what comes before itself in the line and is the last one in it
abbrev pub IsLeft : (h : History) (k : ℕ) (line : List ℕ) → IsLine h k line → Type 0
IsLeft h k line l = (t : ℕ) × (xs : List ℕ) × (before : List Operation) × (r : HasRead h t k xs before)
    × (((l.reads t xs before r).rest ≡ []) ⊎ ((l.reads t xs before r).rest ≡ t ∷ []))

-- each link is a precedence, and so is each way through the end of a line
pub record ArePrecedences (h : History) (k : ℕ) (line : List ℕ) (is_line : IsLine h k line) : Type 0 where
  pub neighbours : (front back : List ℕ) (u v : ℕ) → line ≡ front ++ u ∷ v ∷ back → Precedes h u v
  pub shown : (t : ℕ) (xs : List ℕ) (before : List Operation) (r : HasRead h t k xs before) (front : List ℕ) (u : ℕ)
      → (is_line.reads t xs before r).writers ≡ front ++ u ∷ [] → Precedes h u t
  pub not_shown : (t : ℕ) (xs : List ℕ) (before : List Operation) (r : HasRead h t k xs before) (v : ℕ) (more : List ℕ)
      → (is_line.reads t xs before r).rest ≡ v ∷ more → t ≢ v → Precedes h t v
  -- from the last writer, or from a reader of the whole line, through the end to a transaction that isn't in the line
  pub last_unseen : (front : List ℕ) (u v x : ℕ) → line ≡ front ++ u ∷ [] → Contains (own h k v) x → (Contains line v → ⊥)
      → Precedes h u v
  pub all_shown_unseen : (t : ℕ) (xs : List ℕ) (before : List Operation) (r : HasRead h t k xs before) (v x : ℕ)
      → (is_line.reads t xs before r).rest ≡ [] → Contains (own h k v) x → (Contains line v → ⊥) → Precedes h t v

abbrev pub LinksArePrecedences : Type 0
LinksArePrecedences = (h : History) (k : ℕ) (line : List ℕ) (is_line : IsLine h k line) → AppendersDiffer h → IsLeft h k line is_line
    → ArePrecedences h k line is_line

-- each transaction that read the key left a beginning of what this one left
abbrev pub IsLongest : (h : History) (t k : ℕ) (xs : List ℕ) (before : List Operation) → HasRead h t k xs before → Type 0
IsLongest h t k xs before r = (u : ℕ) (ys : List ℕ) (earlier : List Operation) (s : HasRead h u k ys earlier)
    → IsPrefixOf (left h u k ys earlier s) (left h t k xs before r)

-- a key has a line, if its reads are whole and one transaction left the longest list
abbrev pub LinesExist : Type 0
LinesExist = (h : History) (t k : ℕ) (xs : List ℕ) (before : List Operation) (r : HasRead h t k xs before) → AppendersDiffer h
    → ((u : ℕ) (ys : List ℕ) (earlier : List Operation) → HasRead h u k ys earlier → IsWhole h u k ys earlier)
    → IsLongest h t k xs before r → (line : List ℕ) × (is_line : IsLine h k line) × IsLeft h k line is_line
