-- The numbers of an entry fit the fields that keep them: 16, 32 or 64 bits, and 8 for a frame's byte.
use Rattle.std.specs.Prelude.{ℕ, ◌<◌, ◌^◌}
use Rattle.std.specs.List.{AllByRecursion}
use Rattle.nm_types.specs.Frames.{Frame}
use Rattle.vale_entry.specs.declared.entry.Item.{Item}
use Rattle.vale_entry.specs.declared.entry.Entry.{Entry}
use Rattle.vale_entry.specs.Fits.{Widths as WidthsOf, EntryFits}

abbrev pub IsByte : ℕ → Type 0
IsByte n = n < 2 ^ 8

abbrev pub Is16 : ℕ → Type 0
Is16 n = n < 2 ^ 16

abbrev pub Is32 : ℕ → Type 0
Is32 n = n < 2 ^ 32

abbrev pub Is64 : ℕ → Type 0
Is64 n = n < 2 ^ 64

abbrev pub AreBytes : Frame → Type 0
AreBytes frame = AllByRecursion IsByte frame.bytes

abbrev pub FitsItem : Item → Type 0
FitsItem item = Is32 item.index × AreBytes item.bytes

abbrev pub field_widths : WidthsOf
field_widths = record {
  IsLength = Is16;
  IsNumber = Is32;
  IsWide = Is64;
  IsSent = λ port frames. Is32 port.0 × AllByRecursion AreBytes frames;
  IsItem = FitsItem;
}

-- each number of an entry fits its field
abbrev pub FitsFields : Entry → Type 0
FitsFields entry = EntryFits field_widths entry
