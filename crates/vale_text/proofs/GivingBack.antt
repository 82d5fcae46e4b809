-- What is written is read back, and a text tells its numbers.
use Rattle.std.specs.List.{AllByRecursion as Each}
use Rattle.std.proofs.Common.{ℕ, ◌≡◌, List, [], ◌∷◌, ◌++◌, drop, length, sym, ◌∙◌, ap}
use Rattle.vale_entry.specs.declared.entry.Entry.{Entry}
use Rattle.vale_entry.specs.Transcript.{start_line, entry_lines, end_line, text_of}
use Rattle.vale_entry.proofs.Each.{each-weaker}
use Rattle.vale_entry.specs.Fits.{FitsEntry}
use Rattle.vale_fields.specs.Widths.{Is32, FitsFields}
use Rattle.vale_text.specs.Laws.{ReadingGivesBack, ATextTellsItsNumbers}
use Rattle.vale_text.specs.Lines.{free_in}
use Rattle.vale_text.specs.Reading.{IsTold}
use Rattle.vale_text.proofs.LineReads.{end-free, head-version, head-pool}
use Rattle.vale_text.proofs.Transcripts.{transcripts-tell}
use Rattle.vale_text.proofs.Wider.{wider, entry-wider}

entries-wider : (h : List Entry) → Each FitsFields h → Each FitsEntry h
entries-wider h all = each-weaker FitsFields FitsEntry entry-wider h all

-- two texts that are one
pub texts-same : (oldest v w p q : ℕ) (h k : List Entry) (f g : ℕ) → IsTold oldest v p h f → IsTold oldest w q k g → text_of v p h f ≡ text_of w q k g → (v ≡ w) × (p ≡ q) × (h ≡ k)
texts-same oldest v w p q h k f g one other e =
    transcripts-tell v w p q h k f g (wider v (head-version oldest v p one.head)) (wider w (head-version oldest w q other.head)) (wider p (head-pool oldest v p one.head)) (wider q (head-pool oldest w q other.head))
    one.printable other.printable (entries-wider h one.fits) (entries-wider k other.fits) e

pub reading-back : ReadingGivesBack
reading-back oldest v p free written read told text =
    (texts-same oldest text.version v text.pool p read written text.free free text.is.told told (sym text.is.text)).2

behind-same : (xs a b : List ℕ) → xs ++ a ≡ xs ++ b → a ≡ b
behind-same [] a b e = e
behind-same (x ∷ xs) a b e = behind-same xs a b (ap (drop 1) e)

free-same : (v p : ℕ) (h : List Entry) (f g : ℕ) → Is32 f → Is32 g → text_of v p h f ≡ text_of v p h g → f ≡ g
unfolding text_of
free-same v p h f g small other e =
    let last = behind-same (start_line v p ++ entry_lines v 1 h) (end_line (length h) f) (end_line (length h) g) e in
    sym (end-free (length h) f small) ∙ (ap free_in last ∙ end-free (length h) g other)

pub numbers-told : ATextTellsItsNumbers
numbers-told oldest bytes v w p q read other f g one another =
    let both : text_of v p read f ≡ text_of w q other g = sym one.text ∙ another.text in
    let told = texts-same oldest v w p q read other f g one.told another.told both in
    let same : text_of v p read g ≡ text_of w q other g =
    ap (λ (n : ℕ). text_of n p read g) told.0 ∙ (ap (λ (n : ℕ). text_of w n read g) told.1 ∙ ap (λ (es : List Entry). text_of w q es g) told.2) in
    (told.0, told.1, told.2, free-same v p read f g one.told.free_fits another.told.free_fits (both ∙ sym same))
