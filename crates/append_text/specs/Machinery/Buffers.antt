-- What is left to read.
use Rattle.std.specs.Prelude.{ℕ, ◌+◌, ◌-◌, ◌*◌}

-- falls with each line, since a read brings at most 8192 bytes: from the reads left, and where the pending bytes lie
abbrev pub work_left : ℕ → ℕ → ℕ → ℕ
work_left reads start end = reads * 8193 + (end - start)
