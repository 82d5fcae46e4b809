use Rattle.std.proofs.Common.{ℕ, ◌≡◌, ◌+◌, ◌++◌, List, length, take, drop, slice_set, ap, sym, ◌∙◌, rules}
use Rattle.std.proofs.lemmas.List.{take_all, take-append-drop}
use Rattle.nm_frag.specs.Parts.{first_parts}
use Rattle.nm_frag.proofs.PartLemmas.{slots-one}
use Rattle.vale_line.specs.declared.got.Got.{Got}
use Rattle.vale_line.specs.Gots.{got_of, written_parts}
use Rattle.vale_line.proofs.Filling.{written-more}
use Rattle.vale_line.proofs.lease.fill_first.Goals as goal

pub returns : goal.returns
returns c =
    let bytes = c.args.bytes.now in
    let at = c.args.at in
    let gots = c.args.gots.now.items in
    let got = c.index_mut.result.now in
    let short = c.requires.frame in
    let one = slots-one (length bytes) short in
    let whole = take_all 2048 bytes short in
    let written = slice_set gots at (got_of (take 2048 bytes) 0 got.buf) in
    let filled : c.fill.new.self ≡ got_of bytes 0 got.buf = search rules in
    let put : slice_set gots at c.fill.new.self ≡ written =
    ap (λ (x : Got). slice_set gots at x) (filled ∙ ap (λ (bs : List ℕ). got_of bs 0 got.buf) (sym whole)) in
    let more = written-more gots at 0 bytes got c.requires.room (sym c.index_mut.ensures.value) in
    put ∙ (sym (take-append-drop (at + 1) written)
    ∙ (more ∙ ap (λ (n : ℕ). take at gots ++ written_parts (first_parts n bytes) (drop at gots)) (sym one)))
