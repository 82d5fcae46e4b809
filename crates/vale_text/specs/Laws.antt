-- Laws of transcripts.
use Rattle.std.specs.Prelude.{ℕ, ◌≡◌, List}
use Rattle.std.specs.List.{AllByRecursion}
use Rattle.vale_entry.specs.declared.entry.Entry.{Entry}
use Rattle.vale_entry.specs.Laws.{ArePrintable}
use Rattle.vale_entry.specs.Fits.{FitsU64, FitsEntry}
use Rattle.vale_entry.specs.Transcript.{text_of}
use Rattle.vale_text.specs.Reading.{IsTold, IsTextWith, IsTextOf}

-- equal transcripts are of one version, of equal pools and of equal histories, whatever free buffers they
-- end with; so no text of one version is one of another
abbrev pub TranscriptsTellHistories : Type 0
TranscriptsTellHistories =
    (v w p q : ℕ) (h k : List Entry) (f g : ℕ) → FitsU64 v → FitsU64 w → FitsU64 p → FitsU64 q → ArePrintable 1 h → ArePrintable 1 k → AllByRecursion FitsEntry h → AllByRecursion FitsEntry k
    → text_of v p h f ≡ text_of w q k g → (v ≡ w) × (p ≡ q) × (h ≡ k)

-- Reading gives back what was written: a text is that of one history alone.
abbrev pub ReadingGivesBack : Type 0
ReadingGivesBack = (oldest version pool free : ℕ) (written read : List Entry) → IsTold oldest version pool written free → IsTextOf oldest (text_of version pool written free) read → read ≡ written

-- However a text is read, its version, its pool, its history and its free buffers are the same. So what was
-- read is written as the same bytes, by `IsTextWith`.
abbrev pub ATextTellsItsNumbers : Type 0
ATextTellsItsNumbers =
    (oldest : ℕ) (bytes : List ℕ) (v w p q : ℕ) (read other : List Entry) (f g : ℕ) → IsTextWith oldest bytes v p read f → IsTextWith oldest bytes w q other g
    → (v ≡ w) × (p ≡ q) × (read ≡ other) × (f ≡ g)
