-- What one more version changes in the lines.
use Rattle.std.proofs.Common.{◌≡◌, ℕ, Bool, true, false, cond, ◌&&◌, not, ◌==◌, if◌then◌else◌, List, [], ◌∷◌, length, suc, Some, None, refl, ◌∙◌, ap, sym, option_map, arith}
use Rattle.std.specs.List.Sorted.{IsStrictlySortedBy}
use Rattle.std.specs.Map.{lookup, set_value, keys_of}
use Rattle.std.specs.BTreeMap.{is_at, insert_entry}
use Rattle.std.specs.Ordering.{nat_cmp, match_ordering}
use Rattle.std.specs.declared.cmp.Ordering.TheVariants.{Less, Equal, Greater}
use Rattle.std.specs.Cmp.Lexicographic.{slice_cmp, texts_ties, same_text}
use Rattle.std.proofs.lemmas.Bool.{ne_eqb}
use Rattle.adya_values.specs.declared.event.Entry.{Entry as EntryValue}
use Rattle.adya_keys.specs.Meaning.Keys.{key_eq}
use Rattle.adya_values.specs.Mirror.Events.{entry_of}
use Rattle.ssi_recorder.specs.Machinery.Lines.{Line, line_at, put_in, put_at, IsLine, AreLines}

-- the map's test of keys is their equality
pub tied : (k q : List ℕ) → is_at (slice_cmp nat_cmp k) q ≡ key_eq k q
tied k q = sym (texts_ties k q)

-- the line of the key has the version at its place, and the other lines are as before
pub put_step : (es fs : List (List ℕ × Line)) (k q : List ℕ) (p r : ℕ) (w : EntryValue) (u : Line)
    → put_in r (Some u) ≡ (if is_at (nat_cmp p) r then Some (entry_of w) else put_at k r es)
    → line_at q fs ≡ cond (is_at (slice_cmp nat_cmp k) q) (Some u) (line_at q es)
    → put_at q r fs ≡ (if key_eq k q && is_at (nat_cmp p) r then Some (entry_of w) else put_at q r es)
put_step es fs k q p r w u here gives =
    ap (put_in r) (gives ∙ ap (λ b. cond b (Some u) (line_at q es)) (tied k q))
    ∙ elim (key_eq k q) as (λ b. key_eq k q ≡ b → put_in r (cond b (Some u) (line_at q es)) ≡ (if b && is_at (nat_cmp p) r then Some (entry_of w) else put_at q r es)) [
      | true ↦ λ t. here ∙ ap (λ x. if is_at (nat_cmp p) r then Some (entry_of w) else put_at x r es) (same_text k q (sym t))
      | false ↦ λ t. refl
    ] refl

-- one version more in a line
pub here_some : (es : List (List ℕ × Line)) (k : List ℕ) (p r : ℕ) (w : EntryValue) (v u : Line) → line_at k es ≡ Some v
    → lookup (is_at (nat_cmp r)) u.entries ≡ cond (is_at (nat_cmp p) r) (Some w) (lookup (is_at (nat_cmp r)) v.entries)
    → put_in r (Some u) ≡ (if is_at (nat_cmp p) r then Some (entry_of w) else put_at k r es)
here_some es k p r w v u was gives =
    ap (option_map entry_of) gives
    ∙ elim (is_at (nat_cmp p) r) as (λ b. option_map entry_of (cond b (Some w) (lookup (is_at (nat_cmp r)) v.entries)) ≡ (if b then Some (entry_of w) else put_at k r es)) [
      | true ↦ refl
      | false ↦ ap (put_in r) (sym was)
    ]

-- the first version of a line
pub here_none : (es : List (List ℕ × Line)) (k : List ℕ) (p r : ℕ) (w : EntryValue) (v u : Line) → line_at k es ≡ None → v.entries ≡ []
    → lookup (is_at (nat_cmp r)) u.entries ≡ cond (is_at (nat_cmp p) r) (Some w) (lookup (is_at (nat_cmp r)) v.entries)
    → put_in r (Some u) ≡ (if is_at (nat_cmp p) r then Some (entry_of w) else put_at k r es)
here_none es k p r w v u was none gives =
    ap (option_map entry_of) (gives ∙ ap (λ xs. cond (is_at (nat_cmp p) r) (Some w) (lookup (is_at (nat_cmp r)) xs)) none)
    ∙ elim (is_at (nat_cmp p) r) as (λ b. option_map entry_of (cond b (Some w) None) ≡ (if b then Some (entry_of w) else put_at k r es)) [
      | true ↦ refl
      | false ↦ ap (put_in r) (sym was)
    ]

some_length : {X : Type 0} (x : X) (xs : List X) → not (length (x ∷ xs) == 0) ≡ true
some_length x xs = ap not (ne_eqb (suc (length xs)) 0 (λ e. omega (arith, e)))

pub inserted_some : (es : List (ℕ × EntryValue)) (p : ℕ) (w : EntryValue) → not (length (insert_entry nat_cmp es p w) == 0) ≡ true
inserted_some [] p w = some_length {X = ℕ × EntryValue} (p, w) []
inserted_some (e ∷ es) p w =
    elim (nat_cmp p e.0) as (λ o. not (length (match_ordering o ((p, w) ∷ e ∷ es) ((e.0, w) ∷ es) (e ∷ insert_entry nat_cmp es p w)) == 0) ≡ true) [
      | Less ↦ some_length {X = ℕ × EntryValue} (p, w) (e ∷ es)
      | Equal ↦ some_length {X = ℕ × EntryValue} (e.0, w) es
      | Greater ↦ some_length e (insert_entry nat_cmp es p w)
    ]

-- a line with one version more is a line
pub is_line : (m : Line) (es : List (ℕ × EntryValue)) (p : ℕ) (w : EntryValue) → m.entries ≡ insert_entry nat_cmp es p w → IsStrictlySortedBy nat_cmp (keys_of m.entries) → IsLine m
is_line m es p w e sorted = (ap (λ xs. not (length xs == 0)) e ∙ inserted_some es p w, sorted)

pub lines-set : (test : List ℕ → Bool) (es : List (List ℕ × Line)) (u : Line) → AreLines es → IsLine u → AreLines (set_value test es u)
lines-set test [] u all one = all
lines-set test (e ∷ es) u all one =
    elim (test e.0) as (λ b. AreLines (cond b ((e.0, u) ∷ es) (e ∷ set_value test es u))) [
      | true ↦ (one, all.1)
      | false ↦ (all.0, lines-set test es u all.1 one)
    ]

pub lines-insert : (k : List ℕ) (es : List (List ℕ × Line)) (u : Line) → AreLines es → IsLine u → AreLines (insert_entry (slice_cmp nat_cmp) es k u)
lines-insert k [] u all one = (one, all)
lines-insert k (e ∷ es) u all one =
    elim (slice_cmp nat_cmp k e.0) as (λ o. AreLines (match_ordering o ((k, u) ∷ e ∷ es) ((e.0, u) ∷ es) (e ∷ insert_entry (slice_cmp nat_cmp) es k u))) [
      | Less ↦ (one, all)
      | Equal ↦ (one, all.1)
      | Greater ↦ (all.0, lines-insert k es u all.1 one)
    ]
