-- What entries tell of a port: what those so far tell, and those that are left, is the whole.
use Rattle.std.proofs.Common.{ℕ, Bool, true, false, cond, ◌==◌, ◌+◌, ◌<◌, ◌≤◌, ◌≡◌, List, [], ◌∷◌, ◌++◌, length, sum, drop, get_or, Option, Some, None, unwrap_or, refl, sym, ◌∙◌, ap, arith, add_assoc, zero-add, add-zero, length-append, nat_eq}
use Rattle.std.proofs.lemmas.Bool.{eqb-true}
use Rattle.std.proofs.lemmas.List.{drop_all, length-map}
use Rattle.std.proofs.lemmas.List.Sums.{sum_by-append}
use Rattle.vale_entry.specs.declared.entry.Ask.{Ask}
use Rattle.vale_entry.specs.declared.entry.Ask.TheVariants.{Send, Grant, Sync, Shut, Finish, PutKept, Get}
use Rattle.vale_entry.specs.declared.entry.Reply.{Reply}
use Rattle.vale_entry.specs.declared.entry.Reply.TheVariants.{Took}
use Rattle.vale_entry.specs.declared.entry.Entry.{Entry}
use Rattle.vale_entry.specs.Legal.{kept_items}
use Rattle.vale_entry.specs.Pipe.{frame_of_item, frames_of_items}
use Rattle.vale_entry.specs.Delivered.{gathered, count_given, count_taken, count_gave, count_unread, gave_by, unread_by}
use Rattle.vale_entry.specs.Counted.{switched_by, piped_by, lone_by, count_lone, full_by, count_full}
use Rattle.vale_told.specs.declared.told.Told.{Told}
use Rattle.vale_told.specs.declared.ends.End.{End}
use Rattle.vale_told.specs.Ends.{ends_by, peer_among}
use Rattle.vale_told.specs.Told.{count_short, short_by, granted_by, count_gone, gone_by, is_port, put_by, puts_from, first_of, shut_by, finished_by, told_from, told_nothing, told_both, told_if, told_of_send, told_of_grant, told_of_receive, told_of_put, told_of_taken, told_of_shut, told_of_finish, told_by}
use Rattle.vale_told.proofs.Listing.{drop-next}

abbrev told_as : ℕ → ℕ → ℕ → ℕ → ℕ → ℕ → ℕ → ℕ → Option ℕ → Option ℕ → Told
told_as a b c d e f g h s t = record {
  tally = record {
    counts = record { sent = a; short = b; lone = c; given = d; full = e; read = f };
    gone = g;
    unread = h;
  };
  shut = s;
  finished = t;
}

told_as-same :
    (a b c d e f g h a' b' c' d' e' f' g' h' : ℕ) (s t s' t' : Option ℕ) → a ≡ a' → b ≡ b' → c ≡ c'
    → d ≡ d' → e ≡ e' → f ≡ f' → g ≡ g' → h ≡ h' → s ≡ s' → t ≡ t'
    → told_as a b c d e f g h s t ≡ told_as a' b' c' d' e' f' g' h' s' t'
told_as-same a b c d e f g h a' b' c' d' e' f' g' h' s t s' t' p q r u v w x y z o =
    rw (p, q, r, u, v, w, x, y, z, o) refl

first_of-assoc : (a b c : Option ℕ) → first_of (first_of a b) c ≡ first_of a (first_of b c)
first_of-assoc None b c = refl
first_of-assoc (Some n) b c = refl

first_of-none : (a : Option ℕ) → first_of a None ≡ a
first_of-none None = refl
first_of-none (Some n) = refl

told_both-assoc : (x y z : Told) → told_both (told_both x y) z ≡ told_both x (told_both y z)
told_both-assoc x y z =
    told_as-same _ _ _ _ _ _ _ _ _ _ _ _ _ _ _ _ _ _ _ _
    (add_assoc x.tally.counts.sent y.tally.counts.sent z.tally.counts.sent)
    (add_assoc x.tally.counts.short y.tally.counts.short z.tally.counts.short)
    (add_assoc x.tally.counts.lone y.tally.counts.lone z.tally.counts.lone)
    (add_assoc x.tally.counts.given y.tally.counts.given z.tally.counts.given)
    (add_assoc x.tally.counts.full y.tally.counts.full z.tally.counts.full)
    (add_assoc x.tally.counts.read y.tally.counts.read z.tally.counts.read)
    (add_assoc x.tally.gone y.tally.gone z.tally.gone)
    (add_assoc x.tally.unread y.tally.unread z.tally.unread)
    (first_of-assoc x.shut y.shut z.shut) (first_of-assoc x.finished y.finished z.finished)

-- nothing, and then something
told_both-first : (x : Told) → told_both told_nothing x ≡ x
told_both-first x =
    told_as-same _ _ _ _ _ _ _ _ x.tally.counts.sent x.tally.counts.short x.tally.counts.lone
    x.tally.counts.given x.tally.counts.full x.tally.counts.read x.tally.gone x.tally.unread _ _
    x.shut x.finished (zero-add x.tally.counts.sent) (zero-add x.tally.counts.short)
    (zero-add x.tally.counts.lone) (zero-add x.tally.counts.given) (zero-add x.tally.counts.full)
    (zero-add x.tally.counts.read) (zero-add x.tally.gone) (zero-add x.tally.unread) refl refl

-- something, and then nothing
pub told_both-last : (x : Told) → told_both x told_nothing ≡ x
told_both-last x =
    told_as-same _ _ _ _ _ _ _ _ x.tally.counts.sent x.tally.counts.short x.tally.counts.lone
    x.tally.counts.given x.tally.counts.full x.tally.counts.read x.tally.gone x.tally.unread _ _
    x.shut x.finished (add-zero x.tally.counts.sent) (add-zero x.tally.counts.short)
    (add-zero x.tally.counts.lone) (add-zero x.tally.counts.given) (add-zero x.tally.counts.full)
    (add-zero x.tally.counts.read) (add-zero x.tally.gone) (add-zero x.tally.unread)
    (first_of-none x.shut) (first_of-none x.finished)

pub ruleset nothing_more = (told_both-last)

-- One entry.

taken-is : (reply : Reply) → sum (count_taken reply) ≡ length (kept_items reply)
taken-is (Took items to) = zero-add (length items)
taken-is _ = refl

-- what an entry adds to each of the numbers
abbrev told_entry : ℕ → List End → Ask → Reply → ℕ → Told
told_entry number ends ask reply port =
    told_as (length (switched_by port ask reply) + length (piped_by port ask reply))
    (sum (short_by port ask reply)) (sum (lone_by port ask reply))
    (sum (granted_by port ask reply) + sum (put_by ends port ask reply)) (sum (full_by port ask reply))
    (sum (gave_by port ask reply)) (sum (gone_by port ask reply)) (sum (unread_by port ask reply))
    (shut_by number port ask) (finished_by number port ask)

put-is : (reply : Reply) (mine other : Bool)
    → told_as (0 + length (cond mine (frames_of_items (kept_items reply)) [])) 0 0
    (0 + sum (cond other (count_taken reply) [])) 0 0 0 0 None None
    ≡ told_both (told_if mine (told_of_put reply)) (told_if other (told_of_taken reply))
put-is reply mine other = by_test mine other
  where
    count : length (frames_of_items (kept_items reply)) ≡ length (kept_items reply)
    count = length-map (kept_items reply) frame_of_item

    by_test : (mine other : Bool)
        → told_as (0 + length (cond mine (frames_of_items (kept_items reply)) [])) 0 0
        (0 + sum (cond other (count_taken reply) [])) 0 0 0 0 None None
        ≡ told_both (told_if mine (told_of_put reply)) (told_if other (told_of_taken reply))
    by_test true true =
        ap (λ n. told_as n 0 0 (0 + sum (count_taken reply)) 0 0 0 0 None None) (zero-add (length (frames_of_items (kept_items reply))) ∙ count ∙ sym (add-zero (length (kept_items reply))))
        ∙ ap (λ n. told_as (length (kept_items reply) + 0) 0 0 (0 + n) 0 0 0 0 None None) (taken-is reply)
    by_test true false =
        ap (λ n. told_as n 0 0 0 0 0 0 0 None None) (zero-add (length (frames_of_items (kept_items reply))) ∙ count ∙ sym (add-zero (length (kept_items reply))))
    by_test false true = ap (λ n. told_as 0 0 0 (0 + n) 0 0 0 0 None None) (taken-is reply)
    by_test false false = refl

entry-is : (number : ℕ) (ends : List End) (ask : Ask) (reply : Reply) (port : ℕ)
    → told_entry number ends ask reply port ≡ told_by number ends ask reply port
entry-is number ends (Send from frames) reply port = by_test (from.0 == port)
  where
    by_test : (b : Bool)
        → told_as (length (cond b frames []) + 0) (sum (cond b (count_short reply) []))
        (sum (cond b (count_lone reply) [])) 0 0 0 0 0 None None
        ≡ told_if b (told_of_send frames reply)
    by_test true =
        ap (λ n. told_as n (sum (count_short reply)) (sum (count_lone reply)) 0 0 0 0 0 None None)
        (add-zero (length frames))
    by_test false = refl
entry-is number ends (Grant origin to) reply port = by_test (to.0 == port)
  where
    by_test : (b : Bool)
        → told_as 0 0 0 (sum (cond b (count_given reply) []) + 0) (sum (cond b (count_full reply) []))
        0 (sum (cond b (count_gone reply) [])) 0 None None
        ≡ told_if b (told_of_grant reply)
    by_test true =
        ap (λ n. told_as 0 0 0 n (sum (count_full reply)) 0 (sum (count_gone reply)) 0 None None)
        (add-zero (sum (count_given reply)))
    by_test false = refl
entry-is number ends (Sync at back) reply port = by_test (at.0 == port)
  where
    by_test : (b : Bool)
        → told_as 0 0 0 0 0 (sum (cond b (count_gave reply) [])) 0 0 None None
        ≡ told_if b (told_of_receive reply)
    by_test true = refl
    by_test false = refl
entry-is number ends (Get at back) reply port = by_test (at.0 == port)
  where
    by_test : (b : Bool)
        → told_as 0 0 0 0 0 (sum (cond b (count_gave reply) [])) 0 0 None None
        ≡ told_if b (told_of_receive reply)
    by_test true = refl
    by_test false = refl
entry-is number ends (PutKept at offered) reply port =
    put-is reply (at.0 == port) (is_port (peer_among ends at.0) port)
entry-is number ends (Shut at) reply port = by_test (at.0 == port)
  where
    by_test : (b : Bool)
        → told_as 0 0 0 0 0 0 0 0 (cond b (Some number) None) None
        ≡ told_if b (told_of_shut number)
    by_test true = refl
    by_test false = refl
entry-is number ends (Finish at bufs chain) reply port = by_test (at.0 == port)
  where
    by_test : (b : Bool)
        → told_as 0 0 0 0 0 0 0 (sum (cond b (count_unread reply) [])) None (cond b (Some number) None)
        ≡ told_if b (told_of_finish number reply)
    by_test true = refl
    by_test false = refl
entry-is number ends _ reply port = refl

-- One entry, and those behind it.

sum-append : (xs ys : List ℕ) → sum (xs ++ ys) ≡ sum xs + sum ys
sum-append xs ys = sum_by-append (λ x. x) xs ys

crosswise : (a b c d : ℕ) → (a + b) + (c + d) ≡ (a + c) + (b + d)
crosswise a b c d = omega arith

two_lengths :
    {X Y : Type 0} (a x : List X) (b y : List Y)
    → length (a ++ x) + length (b ++ y) ≡ (length a + length b) + (length x + length y)
two_lengths a x b y =
    ap (λ n. n + length (b ++ y)) (length-append a x)
    ∙ ap (λ n. (length a + length x) + n) (length-append b y)
    ∙ crosswise (length a) (length x) (length b) (length y)

two_sums : (a x b y : List ℕ) → sum (a ++ x) + sum (b ++ y) ≡ (sum a + sum b) + (sum x + sum y)
two_sums a x b y =
    ap (λ n. n + sum (b ++ y)) (sum-append a x) ∙ ap (λ n. (sum a + sum x) + n) (sum-append b y)
    ∙ crosswise (sum a) (sum x) (sum b) (sum y)

told-cons : (number : ℕ) (ends : List End) (entry : Entry) (entries : List Entry) (port : ℕ)
    → told_from number ends (entry ∷ entries) port
    ≡ told_both (told_by number ends entry.ask entry.reply port)
    (told_from (number + 1) (ends_by number entry.ask entry.reply ends) entries port)
told-cons number ends entry entries port =
    told_as-same _ _ _ _ _ _ _ _ _ _ _ _ _ _ _ _ _ _ _ _
    (two_lengths (switched_by port ask reply) (gathered switched_by entries port) (piped_by port ask reply) (gathered piped_by entries port))
    (sum-append (short_by port ask reply) (gathered short_by entries port))
    (sum-append (lone_by port ask reply) (gathered lone_by entries port))
    (two_sums (granted_by port ask reply) (gathered granted_by entries port) (put_by ends port ask reply) (puts_from (number + 1) later entries port))
    (sum-append (full_by port ask reply) (gathered full_by entries port))
    (sum-append (gave_by port ask reply) (gathered gave_by entries port))
    (sum-append (gone_by port ask reply) (gathered gone_by entries port))
    (sum-append (unread_by port ask reply) (gathered unread_by entries port))
    refl refl
    ∙ ap (λ t. told_both t (told_from (number + 1) later entries port)) (entry-is number ends ask reply port)
  where
    ask : Ask
    ask = entry.ask

    reply : Reply
    reply = entry.reply

    later : List End
    later = ends_by number entry.ask entry.reply ends

-- The pass over the entries.

pub told-begins : (whole found : Told) → found ≡ told_nothing → whole ≡ told_both found whole
told-begins whole found none =
    sym (ap (λ t. told_both t whole) none ∙ told_both-first whole)

pub told-goes_on :
    (entries : List Entry) (i : ℕ) (entry : Entry) (ends later : List End) (whole old new : Told)
    (port : ℕ) → i < length entries → entry ≡ get_or entries i entry
    → later ≡ ends_by (i + 1) entry.ask entry.reply ends
    → whole ≡ told_both old (told_from (i + 1) ends (drop i entries) port)
    → new ≡ told_both old (told_by (i + 1) ends entry.ask entry.reply port)
    → whole ≡ told_both new (told_from (i + 1 + 1) later (drop (i + 1) entries) port)
told-goes_on entries i entry ends later whole old new port within same changed before now =
    before
    ∙ ap (λ es. told_both old (told_from (i + 1) ends es port)) (drop-next entries i entry within same)
    ∙ ap (λ t. told_both old t) (told-cons (i + 1) ends entry rest port)
    ∙ sym (told_both-assoc old (told_by (i + 1) ends entry.ask entry.reply port) (told_from (i + 1 + 1) after rest port))
    ∙ ap (λ t. told_both t (told_from (i + 1 + 1) after rest port)) (sym now)
    ∙ ap (λ es. told_both new (told_from (i + 1 + 1) es rest port)) (sym changed)
  where
    rest : List Entry
    rest = drop (i + 1) entries

    after : List End
    after = ends_by (i + 1) entry.ask entry.reply ends

pub told-ends : (entries : List Entry) (i : ℕ) (ends : List End) (whole old : Told) (port : ℕ)
    → length entries ≤ i → whole ≡ told_both old (told_from (i + 1) ends (drop i entries) port)
    → old ≡ whole
told-ends entries i ends whole old port past before =
    sym
    (before
    ∙ ap (λ es. told_both old (told_from (i + 1) ends es port)) (drop_all i entries past)
    ∙ told_both-last old)

-- what a map has, with something added at one port
pub told-added : (found : ℕ → Option Told) (port q : ℕ) (now : Option Told) (more : Told)
    → now ≡ cond (nat_eq port q) (Some (told_both (unwrap_or (found port) told_nothing) more)) (found q)
    → unwrap_or now told_nothing
    ≡ told_both (unwrap_or (found q) told_nothing) (told_if (port == q) more)
told-added found port q now more is =
    ap (λ o. unwrap_or o told_nothing) is ∙ by_test (nat_eq port q) refl
  where
    by_test : (b : Bool) → nat_eq port q ≡ b
        → unwrap_or (cond b (Some (told_both (unwrap_or (found port) told_nothing) more)) (found q)) told_nothing
        ≡ told_both (unwrap_or (found q) told_nothing) (told_if b more)
    by_test true same =
        ap (λ n. told_both (unwrap_or (found n) told_nothing) more) (eqb-true port q same)
    by_test false other = sym (told_both-last (unwrap_or (found q) told_nothing))
