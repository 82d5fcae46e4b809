-- Frames are written into buffers, one by one.
use Rattle.std.proofs.Common.{ℕ, zero, suc, ◌≡◌, ◌+◌, ◌<◌, ◌==◌, ◌&&◌, ◌||◌, not, Bool, true, false, List, [], ◌∷◌, ◌++◌, length, take, drop, reverse, get_or, refl, sym, ◌∙◌, ap, ap₂, subst, arith}
use Rattle.std.specs.List.{AllByRecursion as Each, list_all, list_any}
use Rattle.std.proofs.lemmas.Bool.{and_parts}
use Rattle.std.proofs.lemmas.List.{length-map, map-append, reverse-append, reverse-reverse}
use Rattle.nm_types.specs.Frames.{Frame}
use Rattle.nm_types.specs.Sendable.{fits_buffer}
use Rattle.nm_region.specs.Buffers.{Buffer, indices_of}
use Rattle.vale_line.specs.declared.got.Got.{Got}
use Rattle.vale_line.specs.Gots.{got_of, buffers_of, buffer_of, IsSingle}
use Rattle.vale_entry.specs.declared.entry.Item.{Item}
use Rattle.vale_entry.specs.Holdings.{contains}
use Rattle.vale_entry.specs.Pipe.{is_pipe_item}
use Rattle.vale_entry.specs.Pipe.{indices_of as item_indices}
use Rattle.vale_entry.proofs.Each.{each-append}
use Rattle.vale_book.specs.BookView.{AreOf, IsBufferOf}
use Rattle.vale_book.specs.Putting.{item_of, items_of}
use Rattle.vale_serve.specs.Buffers.{holds}
use Rattle.vale_serve.specs.Putting.{is_in, is_held, AreFramed}
use Rattle.vale_serve.proofs.Exchanges.{take-whole}

-- ---- by their indices

pub named-items : (index : ℕ) (items : List Item) → list_any (is_in index) items ≡ contains index (item_indices items)
named-items index [] = refl
named-items index (item ∷ items) = ap (λ (t : Bool). (item.index == index) || t) (named-items index items)

pub held-items : (bufs : List Buffer) (items : List Item) → list_all (is_held bufs) items ≡ list_all (holds bufs) (item_indices items)
held-items bufs [] = refl
held-items bufs (item ∷ items) = ap (λ (t : Bool). holds bufs item.index && t) (held-items bufs items)

-- ---- in their buffers

pub record FramedSoFar (start : List Buffer) (offered : List Item) (i : ℕ) (bufs : List Buffer) (gots : List Got) : Type 0 where
  pub made : items_of gots ≡ take i offered
  pub single : Each IsSingle gots
  pub left : indices_of (reverse bufs) ≡ drop i (item_indices offered)
  pub count : length bufs + i ≡ length offered
  pub region_is : (region : ℕ) → AreOf region start → AreOf region (reverse bufs) × AreOf region (buffers_of gots)

pub framed-start : (bufs turned : List Buffer) (offered : List Item) → turned ≡ reverse bufs → length turned ≡ length bufs → indices_of bufs ≡ item_indices offered → FramedSoFar bufs offered 0 turned []
framed-start bufs turned offered is long named =
    let back : reverse turned ≡ bufs = ap (λ (bs : List Buffer). reverse bs) is ∙ reverse-reverse bufs in
    let count = sym (length-map bufs (λ (b : Buffer). b.index)) ∙ (ap (λ (ns : List ℕ). length ns) named ∙ length-map offered _) in
    record {
      made = refl;
      single = tt;
      left = ap indices_of back ∙ named;
      count = omega (arith, long, count);
      region_is = λ region of. (subst (AreOf region) (sym back) of, tt);
    }

drop-next : (offered : List Item) (i : ℕ) (item : Item) → i < length offered → item ≡ get_or offered i item → drop i (item_indices offered) ≡ item.index ∷ drop (i + 1) (item_indices offered)
drop-next [] i item few e = absurd (omega (arith, few))
drop-next (x ∷ xs) zero item few e = ap (λ (y : Item). y.index ∷ item_indices xs) (sym e)
drop-next (x ∷ xs) (suc i) item few e =
    let next : suc i + 1 ≡ suc (i + 1) = omega arith in
    rw next (drop-next xs i item (omega (arith, few)) e)

cut : (n m : ℕ) (ns ms : List ℕ) → n ∷ ns ≡ m ∷ ms → (n ≡ m) × (ns ≡ ms)
cut n m ns ms e = (cc, cc)

front-of : (bytes rest : List ℕ) → take (length bytes) (bytes ++ rest) ≡ bytes
front-of [] rest = refl
front-of (byte ∷ bytes) rest = ap (λ (bs : List ℕ). byte ∷ bs) (front-of bytes rest)

item-same : (item : Item) (index : ℕ) (bytes : List ℕ) (mark : Bool) → index ≡ item.index → bytes ≡ item.bytes.bytes → mark ≡ item.bytes.no_learn
    → (let frame : Frame = record { bytes = bytes; no_learn = mark } in let made : Item = record { index = index; bytes = frame } in made ≡ item)
item-same item index bytes mark one two three =
    ap₂ (λ (i : ℕ) (f : Frame). the_item i f) one (ap₂ (λ (b : List ℕ) (m : Bool). the_frame b m) two three)
  where
    the_frame : List ℕ → Bool → Frame
    the_frame b m = record { bytes = b; no_learn = m }

    the_item : ℕ → Frame → Item
    the_item i f = record { index = i; bytes = f }

not-marked : (t : Bool) → not t ≡ true → false ≡ t
not-marked true e = absurd cc
not-marked false e = refl

pub framed-more : (start : List Buffer) (offered : List Item) (i : ℕ) (old new : List Buffer) (buf : Buffer) (gots : List Got) (item : Item) → FramedSoFar start offered i old gots → old ≡ new ++ buf ∷ []
    → i < length offered → item ≡ get_or offered i item → is_pipe_item item ≡ true → length new + 1 ≡ length old
    → FramedSoFar start offered (i + 1) new (gots ++ got_of item.bytes.bytes 0 buf ∷ [])
framed-more start offered i old new buf gots item k is few here pipe less =
    let turned : reverse old ≡ buf ∷ reverse new = ap (λ (bs : List Buffer). reverse bs) is ∙ reverse-append new (buf ∷ []) in
    let parts = cut buf.index item.index (indices_of (reverse new)) (drop (i + 1) (item_indices offered)) (sym (ap indices_of turned) ∙ (k.left ∙ drop-next offered i item few here)) in
    let got = got_of item.bytes.bytes 0 buf in
    let same : item_of got ≡ item = item-same item buf.index _ false parts.0 (front-of item.bytes.bytes _) (not-marked item.bytes.no_learn (and_parts (fits_buffer item.bytes) (not item.bytes.no_learn) pipe).1) in
    let count = k.count in
    record {
      made = map-append item_of gots (got ∷ [])
          ∙ (ap (λ (x : Item). items_of gots ++ x ∷ []) same ∙ (ap (λ (xs : List Item). xs ++ item ∷ []) k.made ∙ sym (take-more offered i item few here)));
      single = each-append IsSingle gots (got ∷ []) k.single (refl, tt);
      left = parts.1;
      count = omega (arith, count, less);
      region_is = λ region of.
          let both = k.region_is region of in
          let whole = subst (AreOf region) turned both.0 in
          (whole.1, subst (AreOf region) (sym (map-append buffer_of gots (got ∷ []))) (each-append (IsBufferOf region) (buffers_of gots) (got.buf ∷ []) both.1 (whole.0, tt)));
    }
  where
    take-more : (xs : List Item) (j : ℕ) (x : Item) → j < length xs → x ≡ get_or xs j x → take (j + 1) xs ≡ take j xs ++ x ∷ []
    take-more [] j x less' e = absurd (omega (arith, less'))
    take-more (y ∷ ys) zero x less' e = ap (λ (z : Item). z ∷ []) (sym e)
    take-more (y ∷ ys) (suc j) x less' e =
        let next : suc j + 1 ≡ suc (j + 1) = omega arith in
        rw next (ap (λ (zs : List Item). y ∷ zs) (take-more ys j x (omega (arith, less')) e))

pub framed-end : (start : List Buffer) (offered : List Item) (i : ℕ) (bufs : List Buffer) (gots : List Got) → FramedSoFar start offered i bufs gots → i ≡ length offered → AreFramed start offered gots
framed-end start offered i bufs gots k all = record {
  items = k.made ∙ (ap (λ (n : ℕ). take n offered) all ∙ take-whole offered);
  single = k.single;
  region_is = λ region of. (k.region_is region of).1;
}

pub pipe-at : (offered : List Item) (i : ℕ) (item : Item) → list_all is_pipe_item offered ≡ true → i < length offered → item ≡ get_or offered i item → is_pipe_item item ≡ true
pipe-at [] i item all few e = absurd (omega (arith, few))
pipe-at (x ∷ xs) zero item all few e = ap is_pipe_item e ∙ (and_parts (is_pipe_item x) (list_all is_pipe_item xs) all).0
pipe-at (x ∷ xs) (suc i) item all few e = pipe-at xs i item (and_parts (is_pipe_item x) (list_all is_pipe_item xs) all).1 (omega (arith, few)) e
