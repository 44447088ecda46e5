use Rattle.std.proofs.Common.{◌≡◌, ◌≤◌, length, take}
use Rattle.std.specs.List.{prefix_len}
use Rattle.std.specs.Char.{is_ascii_digit}
use Rattle.edn.specs.Meaning.Numbers.{after_digits, magnitude_after}
use Rattle.edn.proofs.number.leading_digits.Given as goal

abbrev pub invariant-loop-rest : goal.invariant-loop-rest
invariant-loop-rest l =
    (magnitude_after 10 l.value (take (prefix_len is_ascii_digit l.rest) l.rest)
    ≡ magnitude_after 10 0 (take (prefix_len is_ascii_digit l.text) l.text))
    × (after_digits l.rest ≡ after_digits l.text)
    × (length l.rest ≤ length l.text)

abbrev pub decreases-loop-rest : goal.decreases-loop-rest
decreases-loop-rest l = length l.rest
