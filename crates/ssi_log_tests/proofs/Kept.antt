-- What a crash keeps of a text, of a longer one, and of fewer bytes that are there for sure.
use Rattle.std.proofs.Common.{◌≡◌, ◌≤◌, ℕ, List, [], ◌++◌, length, sym, ◌∙◌, ap, append_assoc, subst, arith}
use Rattle.std.proofs.lemmas.List.{append-nil}
use Rattle.sqlite_disk.specs.Disk.{Only}
use Rattle.ssi_log.specs.Meaning.Crashes.{Finds, Keeps}
use Rattle.ssi_log.specs.Meaning.Texts.{text_of}

module _ (may_leave : List ℕ → Type 0) (text : List ℕ) (sure : ℕ) (kept : Keeps may_leave text sure) where
  pub longer : (bytes : List ℕ) → Keeps may_leave (text ++ bytes) sure
  longer bytes = λ file left. let f = kept file left in record {
    rest = f.rest ++ bytes;
    whole = ap (λ t. t ++ bytes) f.whole ∙ append_assoc _ f.rest bytes;
    kept = f.kept;
  }

  pub fewer : (n : ℕ) → n ≤ sure → Keeps may_leave text n
  fewer n few = λ file left. let f = kept file left in record { rest = f.rest; whole = f.whole; kept = omega (arith, few, f.kept) }

-- what stays as it is keeps its whole text
pub unchanged : (seen : List ℕ) (may_leave now : List ℕ → Type 0) → Only seen may_leave → ((file : List ℕ) → now file → may_leave file)
    → Keeps now (text_of seen) (length (text_of seen))
unchanged seen may_leave now only were = λ file left.
    let same : text_of file ≡ text_of seen = ap text_of (only file (were file left)) in
    record { rest = []; whole = sym same ∙ sym (append-nil (text_of file)); kept = omega (arith, ap length same) }

pub found_whole : (seen v t : List ℕ) (may_leave : List ℕ → Type 0) → Finds seen may_leave v → t ≡ v → Finds seen may_leave (t ++ [])
found_whole seen v t may_leave finds same = subst (Finds seen may_leave) (sym same ∙ sym (append-nil t)) finds

pub kept_whole : (seen v t : List ℕ) (now : List ℕ → Type 0) → Keeps now (t ++ []) (length t) → t ≡ v → text_of seen ≡ v
    → Keeps now (text_of seen) (length (text_of seen))
kept_whole seen v t now kept same is =
    subst (λ x. Keeps now x (length x)) (same ∙ sym is) (subst (λ x. Keeps now x (length t)) (append-nil t) kept)
