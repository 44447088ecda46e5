-- Versions and entries whose keys and values are slices, without the text that these are of.
use Rattle.adya_values.specs.declared.event.Version.{Version}
use Rattle.adya_values.specs.Meaning.Histories.{Content, Entry}
use Rattle.adya_values.specs.Meaning.Histories as plain
use Rattle.adya_values.specs.declared.entry_ref.VersionRef.{VersionRef}
use Rattle.adya_values.specs.declared.entry_ref.ContentRef.{ContentRef}
use Rattle.adya_values.specs.declared.entry_ref.ContentRef.TheVariants.{Live, Dead}
use Rattle.adya_values.specs.declared.entry_ref.EntryRef.{EntryRef}

abbrev pub view_version : VersionRef → Version
view_version v = record { key = v.key.now; txn = v.txn; m = v.m }

abbrev pub view_content : ContentRef → Content
view_content (Live v) = plain.Live v.bytes.now
view_content Dead = plain.Dead

abbrev pub view_entry : EntryRef → Entry
view_entry e = record { version = view_version e.version; content = view_content e.content }
