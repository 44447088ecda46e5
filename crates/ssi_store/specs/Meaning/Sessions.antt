-- The names of sessions.
use Rattle.std.specs.Prelude.{ℕ, Bool, ◌||◌, ◌==◌}
use Rattle.adya_keys.specs.Meaning.Keys.{Bytes, is_within, is_text}

-- A-Z, a-z, 0-9 and _
unfoldable pub is_session_byte : ℕ → Bool
is_session_byte b = is_within 97 122 b || is_within 65 90 b || is_within 48 57 b || b == 95

-- 1 to 16 of them
abbrev pub is_session : Bytes → Bool
is_session bytes = is_text 16 is_session_byte bytes
