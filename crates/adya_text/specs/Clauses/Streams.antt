-- A history text and a certificate text in one stream.
use Rattle.std.specs.Prelude.{true, take, drop}
use Rattle.adya_keys.specs.Meaning.Keys.{Bytes}
use Rattle.adya_text.specs.Computing.Streams.{end_of_history}

-- the part of the stream that is the history: up to and with its first line `end`, or all if it has no such line
abbrev pub history_part : Bytes → Bytes
history_part stream = take (end_of_history true stream) stream

-- what follows
abbrev pub serial_part : Bytes → Bytes
serial_part stream = drop (end_of_history true stream) stream
