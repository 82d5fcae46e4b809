-- The offers of one entry, as they are made and granted.
use Rattle.std.proofs.Common.{ℕ, Bool, true, false, cond, ◌≡◌, ◌≤◌, ◌<◌, ◌+◌, List, [], ◌∷◌, ◌++◌, filter, find, drop, Option, Some, None, refl, sym, ◌∙◌, ap, subst, arith, ◌==◌}
use Rattle.std.specs.List.{AllByRecursion as Each, cons_option}
use Rattle.std.specs.Option.{option_map_or}
use Rattle.std.proofs.lemmas.Bool.{eqb-true, eqb-false, eq-eqb, ne_eqb}
use Rattle.std.proofs.lemmas.List.{append-nil}
use Rattle.nm_types.specs.Frames.{Frame}
use Rattle.nm_types.specs.declared.id.PortId.{PortId}
use Rattle.vale_batch.specs.Wants.{Wanted}
use Rattle.vale_entry.specs.declared.entry.Ask.{Ask}
use Rattle.vale_entry.specs.declared.entry.Ask.TheVariants.{PutKept}
use Rattle.vale_entry.specs.declared.entry.Reply.{Reply}
use Rattle.vale_entry.specs.declared.entry.Entry.{Entry}
use Rattle.vale_entry.specs.World.{World, Port, Offer, open_port, transmit_monitor, receive_monitor}
use Rattle.vale_entry.specs.Offers.{is_offer_of, offers_of, offer_to, wanted_frames, monitored_frames}
use Rattle.vale_entry.specs.Grant.{first_offer, without_first}
use Rattle.vale_entry.specs.Delivery.{delivered_frames}
use Rattle.vale_entry.specs.Pipe.{frames_of_items}
use Rattle.vale_entry.specs.Legal.{Standing, after, standing_of, world_of, Follows, named_of, offers_of_send, offers_of_sync, offers_of_put, sync_step}
use Rattle.vale_entry.specs.Laws.{IsFrom}
use Rattle.vale_entry.proofs.ListLaws.{place-of}
use Rattle.vale_entry.proofs.Each.{each-without_first}
use Rattle.vale_entry.proofs.Worlds.{standing-push}
use Rattle.vale_entry.proofs.Numbered.{Numbered, world-numbered}
use Rattle.vale_entry.proofs.Follows.{EachKind, Left, IsQuiet, refused_open, resets, finds_no_peer, finds_no_target, finds_watched, counts, Receives, by_sync, by_get, follows-by}
use Rattle.vale_parts.specs.Batches.{AreOffersOf, wants_monitored}
use Rattle.vale_parts.specs.Offering.{OffersAre, IsNext, offers_at, offers_started, wants_after}
use Rattle.vale_parts.specs.OfferLaws.{OffersFollow, FirstWantsAreNext, NoWantIsLeft, OffersStart, SendsStart, ReadsStart, PutsStart, ReadsAt, syncs, gets}
use Rattle.vale_parts.specs.BatchLaws.{wants_at}
use Rattle.vale_parts.proofs.BatchWants.{sent_offers, given_offers, put_offers}

-- ---- the offers of one entry among others

split_by : (offer : Offer) (one two rest : List Offer) (b : Bool) → rest ≡ one ++ two → cond b (offer ∷ rest) rest ≡ cond b (offer ∷ one) one ++ two
split_by offer one two rest true e = ap (λ (os : List Offer). offer ∷ os) e
split_by offer one two rest false e = e

filter_join : (test : Offer → Bool) (xs ys : List Offer) → filter test (xs ++ ys) ≡ filter test xs ++ filter test ys
filter_join test [] ys = refl
filter_join test (x ∷ xs) ys = split_by x (filter test xs) (filter test ys) (filter test (xs ++ ys)) (test x) (filter_join test xs ys)

-- those of an entry are all of that number
own_by : (m origin session to : ℕ) (frames : List Frame) (offers : List Offer) (b : Bool) → (origin == m) ≡ b → filter (is_offer_of m) offers ≡ cond b offers []
    → filter (is_offer_of m) (cons_option (offer_to origin session to frames) offers) ≡ cond b (cons_option (offer_to origin session to frames) offers) []
own_by m origin session to [] offers b t e = e
own_by m origin session to (f ∷ fs) offers true t e =
    let offer : Offer = record { origin = origin; session = session; to = to; frames = f ∷ fs } in
    ap (λ (b : Bool). cond b (offer ∷ filter (is_offer_of m) offers) (filter (is_offer_of m) offers)) t ∙ ap (λ (os : List Offer). offer ∷ os) e
own_by m origin session to (f ∷ fs) offers false t e =
    let offer : Offer = record { origin = origin; session = session; to = to; frames = f ∷ fs } in
    ap (λ (b : Bool). cond b (offer ∷ filter (is_offer_of m) offers) (filter (is_offer_of m) offers)) t ∙ e

made_of : (m origin session : ℕ) (wanted : Port → List Frame) (b : Bool) → (origin == m) ≡ b → (ports : List Port) → filter (is_offer_of m) (offers_of origin session wanted ports) ≡ cond b (offers_of origin session wanted ports) []
made_of m origin session wanted true t [] = refl
made_of m origin session wanted false t [] = refl
made_of m origin session wanted b t (p ∷ ps) = own_by m origin session p.id (wanted p) (offers_of origin session wanted ps) b t (made_of m origin session wanted b t ps)

-- none is of a later entry
none_later : (count m : ℕ) → count < m → (offers : List Offer) → Each (IsFrom count) offers → filter (is_offer_of m) offers ≡ []
none_later count m up [] all = refl
none_later count m up (o ∷ os) all =
    let miss : (o.origin == m) ≡ false = ne_eqb o.origin m (λ same. let here = all.0 in absurd (omega (arith, up, here, same))) in
    ap (λ (b : Bool). cond b (o ∷ filter (is_offer_of m) os) (filter (is_offer_of m) os)) miss ∙ none_later count m up os all.1

-- once the first of an entry is granted
less_by : (o granted : ℕ) (x : Offer) (rest less : List Offer) (g : Bool) → (granted == o) ≡ g → (a : Bool) → (x.origin == granted) ≡ a → (b : Bool) → (x.origin == o) ≡ b
    → less ≡ cond g (drop 1 rest) rest
    → cond a rest (cond b (x ∷ less) less) ≡ cond g (drop 1 (cond b (x ∷ rest) rest)) (cond b (x ∷ rest) rest)
less_by o granted x rest less true e true f true h same = refl
less_by o granted x rest less true e true f false h same =
    absurd (let equal : x.origin ≡ o = eqb-true x.origin granted f ∙ eqb-true granted o e in eqb-false x.origin o h equal)
less_by o granted x rest less true e false f true h same =
    absurd (let equal : x.origin ≡ granted = eqb-true x.origin o h ∙ sym (eqb-true granted o e) in eqb-false x.origin granted f equal)
less_by o granted x rest less true e false f false h same = same
less_by o granted x rest less false e true f true h same =
    absurd (let equal : granted ≡ o = sym (eqb-true x.origin granted f) ∙ eqb-true x.origin o h in eqb-false granted o e equal)
less_by o granted x rest less false e true f false h same = refl
less_by o granted x rest less false e false f true h same = ap (λ (os : List Offer). x ∷ os) same
less_by o granted x rest less false e false f false h same = same

moved_in : (o granted : ℕ) (x : Offer) (xs : List Offer) (a : Bool)
    → filter (is_offer_of o) (cond a xs (x ∷ without_first granted xs)) ≡ cond a (filter (is_offer_of o) xs) (cond (x.origin == o) (x ∷ filter (is_offer_of o) (without_first granted xs)) (filter (is_offer_of o) (without_first granted xs)))
moved_in o granted x xs true = refl
moved_in o granted x xs false = refl

without : (o granted : ℕ) (offers : List Offer) → filter (is_offer_of o) (without_first granted offers) ≡ cond (granted == o) (drop 1 (filter (is_offer_of o) offers)) (filter (is_offer_of o) offers)
without o granted [] = sym (nothing (granted == o))
  where
    nothing : (b : Bool) → cond {A = List Offer} b [] [] ≡ []
    nothing true = refl
    nothing false = refl
without o granted (x ∷ xs) =
    moved_in o granted x xs (is_offer_of granted x)
    ∙ less_by o granted x (filter (is_offer_of o) xs) (filter (is_offer_of o) (without_first granted xs)) (granted == o) refl (x.origin == granted) refl (x.origin == o) refl (without o granted xs)

-- ---- entry by entry

module _ (s : Standing) (n : Numbered s) where
  abbrev w : World
  w = s.world

  none_new : offers_at w (w.entry_count + 1) ≡ []
  none_new = let up : w.entry_count < w.entry_count + 1 = omega arith in none_later w.entry_count (w.entry_count + 1) up w.offers n.offers_within

  -- what an entry starts with
  abbrev Started : Entry → Standing → Type 0
  Started e left = offers_at left.world (w.entry_count + 1) ≡ offers_started w e.ask e.reply

  made_more : (session : ℕ) (wanted : Port → List Frame)
      → filter (is_offer_of (w.entry_count + 1)) (w.offers ++ offers_of (w.entry_count + 1) session wanted w.ports) ≡ offers_of (w.entry_count + 1) session wanted w.ports
  made_more session wanted =
      filter_join (is_offer_of (w.entry_count + 1)) w.offers (offers_of (w.entry_count + 1) session wanted w.ports)
      ∙ (ap (λ (os : List Offer). os ++ filter (is_offer_of (w.entry_count + 1)) (offers_of (w.entry_count + 1) session wanted w.ports)) none_new
      ∙ made_of (w.entry_count + 1) (w.entry_count + 1) session wanted true (eq-eqb (w.entry_count + 1) (w.entry_count + 1) refl) w.ports)

  at_port : (make : Port → List Offer) (found : Option Port) (port : Port) → found ≡ Some port → make port ≡ option_map_or make found []
  at_port make found port e = sym (ap (λ (o : Option Port). option_map_or make o []) e)

  quiet_started : (ask : Ask) (session : ℕ) (reply : Reply) → IsQuiet s ask session reply → offers_at w (w.entry_count + 1) ≡ offers_started w ask reply
  quiet_started _ _ _ (counts at port e) = none_new
  quiet_started _ _ _ _ = none_new

  read_started : (ask : Ask) (at : PortId) (back : List ℕ) (reply : Reply) (port : Port) → Receives ask at back → open_port w.ports at.0 ≡ Some port
      → filter (is_offer_of (w.entry_count + 1)) (w.offers ++ offers_of_sync w port) ≡ offers_started w ask reply
  read_started _ _ _ reply port (by_sync at back) e =
      made_more port.session (monitored_frames (receive_monitor w port.id) (delivered_frames port)) ∙ at_port (offers_of_sync w) (open_port w.ports at.0) port e
  read_started _ _ _ reply port (by_get at back) e =
      made_more port.session (monitored_frames (receive_monitor w port.id) (delivered_frames port)) ∙ at_port (offers_of_sync w) (open_port w.ports at.0) port e

  started_kinds : EachKind s (Left s Started)
  started_kinds = record {
    enters = λ user fits. none_new;
    leaves = λ session can. none_new;
    quiet = quiet_started;
    opens = λ session name tx rx extra can refusal. none_new;
    sends = λ from frames port e can settled.
        made_more port.session (wanted_frames port (transmit_monitor w port.id) (named_of w port frames)) ∙ at_port (λ (p : Port). offers_of_send w p frames) (open_port w.ports from.0) port e;
    grants = λ origin to offer first same.
        let up : w.entry_count < w.entry_count + 1 = omega arith in
        none_later w.entry_count (w.entry_count + 1) up (without_first offer.origin w.offers) (each-without_first (IsFrom w.entry_count) offer.origin w.offers n.offers_within);
    completes = λ lease lot e. none_new;
    receives = λ ask at back port receives e can. read_started ask at back (sync_step s back port).reply port receives e;
    puts = λ at offered items port peer e can found.
        made_more port.session (monitored_frames (transmit_monitor w port.id) (frames_of_items items)) ∙ at_port (λ (p : Port). offers_of_put w p (frames_of_items items)) (open_port w.ports at.0) port e;
    watches = λ at target sides port found e can there none. none_new;
    shuts = λ at port e settled. none_new;
    finishes = λ at bufs chain port fits e can out. none_new;
  }

  pub started : (e : Entry) → Follows s e → Started e (after s e)
  started e follows = follows-by s Started e follows started_kinds

  -- and what is left of an earlier one's
  module _ (origin : ℕ) (old : origin ≤ w.entry_count) (frames : List Frame) (wants : List Wanted) (are : OffersAre w origin frames wants) where
    abbrev Kept : Entry → Standing → Type 0
    Kept e left = OffersAre left.world origin frames (wants_after origin e.ask wants)

    later : (m session : ℕ) (wanted : Port → List Frame) → m ≡ w.entry_count + 1 → AreOffersOf frames wants (filter (is_offer_of origin) (w.offers ++ offers_of m session wanted w.ports))
    later m session wanted same =
        let apart : (m == origin) ≡ false = ne_eqb m origin (λ equal. absurd (omega (arith, old, same, equal))) in
        let both : filter (is_offer_of origin) (w.offers ++ offers_of m session wanted w.ports) ≡ offers_at w origin =
        filter_join (is_offer_of origin) w.offers (offers_of m session wanted w.ports)
        ∙ (ap (λ (os : List Offer). offers_at w origin ++ os) (made_of origin m session wanted false apart w.ports) ∙ append-nil (offers_at w origin)) in
        subst (AreOffersOf frames wants) (sym both) are

    one_less : (wants : List Wanted) (offers : List Offer) → AreOffersOf frames wants offers → AreOffersOf frames (drop 1 wants) (drop 1 offers)
    one_less [] [] all = tt
    one_less [] (o ∷ os) all = absurd all
    one_less (x ∷ xs) [] all = absurd all
    one_less (x ∷ xs) (o ∷ os) all = all.1

    granted_by : (b : Bool) → AreOffersOf frames (cond b (drop 1 wants) wants) (cond b (drop 1 (offers_at w origin)) (offers_at w origin))
    granted_by true = one_less wants (offers_at w origin) are
    granted_by false = are

    granted : (from : ℕ) (offer : Offer) → first_offer w from ≡ Some offer → AreOffersOf frames (cond (from == origin) (drop 1 wants) wants) (filter (is_offer_of origin) (without_first offer.origin w.offers))
    granted from offer first =
        let same : offer.origin ≡ from = eqb-true offer.origin from (place-of (is_offer_of from) w.offers offer first).passes in
        let left : filter (is_offer_of origin) (without_first offer.origin w.offers) ≡ cond (from == origin) (drop 1 (offers_at w origin)) (offers_at w origin) =
        without origin offer.origin w.offers ∙ ap (λ (k : ℕ). cond (k == origin) (drop 1 (offers_at w origin)) (offers_at w origin)) same in
        subst (AreOffersOf frames (cond (from == origin) (drop 1 wants) wants)) (sym left) (granted_by (from == origin))

    quiet_kept : (ask : Ask) (session : ℕ) (reply : Reply) → IsQuiet s ask session reply → OffersAre w origin frames (wants_after origin ask wants)
    quiet_kept _ _ _ (resets at side fault port e can) = are
    quiet_kept _ _ _ _ = are

    read_kept : (ask : Ask) (at : PortId) (back : List ℕ) (offers : List Offer) → Receives ask at back → AreOffersOf frames wants offers → AreOffersOf frames (wants_after origin ask wants) offers
    read_kept _ _ _ offers (by_sync at back) all = all
    read_kept _ _ _ offers (by_get at back) all = all

    kinds : EachKind s (Left s Kept)
    kinds = record {
      enters = λ user fits. are;
      quiet = quiet_kept;
      opens = λ session name tx rx extra can refusal. are;
      sends = λ from fs port e can settled. later (w.entry_count + 1) port.session (wanted_frames port (transmit_monitor w port.id) (named_of w port fs)) refl;
      grants = λ from to offer first same. granted from offer first;
      completes = λ lease lot e. are;
      receives = λ ask at back port receives e can.
          read_kept ask at back (filter (is_offer_of origin) (w.offers ++ offers_of_sync w port)) receives
          (later (w.entry_count + 1) port.session (monitored_frames (receive_monitor w port.id) (delivered_frames port)) refl);
      puts = λ at offered items port peer e can found. later (w.entry_count + 1) port.session (monitored_frames (transmit_monitor w port.id) (frames_of_items items)) refl;
      watches = λ at target sides port found e can there none. are;
      shuts = λ at port e settled. are;
      finishes = λ at bufs chain port fits e can out. are;
      leaves = λ session can. are;
    }

    pub kept : (e : Entry) → Follows s e → Kept e (after s e)
    kept e follows = follows-by s Kept e follows kinds

pub offers_follow : OffersFollow
offers_follow pool h e origin frames wants follows old are =
    let s = standing_of pool h in
    subst (λ (t : Standing). OffersAre t.world origin frames (wants_after origin e.ask wants)) (sym (standing-push pool h e))
    (kept s (world-numbered pool h) origin old frames wants are e follows)

pub offers_start : OffersStart
offers_start pool h e follows =
    let s = standing_of pool h in
    ap (λ (t : Standing). offers_at t.world (s.world.entry_count + 1)) (standing-push pool h e) ∙ started s (world-numbered pool h) e follows

-- ---- the first of an entry's

found_first : (test : Offer → Bool) (offers : List Offer) (first : Offer) (rest : List Offer) → filter test offers ≡ first ∷ rest → find test offers ≡ Some first
found_first test [] first rest e = absurd cc
found_first test (o ∷ os) first rest e = by_test (test o) (found_first test os first rest) e
  where
    by_test : (b : Bool) → (filter test os ≡ first ∷ rest → find test os ≡ Some first) → cond b (o ∷ filter test os) (filter test os) ≡ first ∷ rest → cond b (Some o) (find test os) ≡ Some first
    by_test true later e = cc
    by_test false later e = later e

found_none : (test : Offer → Bool) (offers : List Offer) → filter test offers ≡ [] → find test offers ≡ None
found_none test [] e = refl
found_none test (o ∷ os) e = by_test (test o) (found_none test os) e
  where
    by_test : (b : Bool) → (filter test os ≡ [] → find test os ≡ None) → cond b (o ∷ filter test os) (filter test os) ≡ [] → cond b (Some o) (find test os) ≡ None
    by_test true later e = absurd cc
    by_test false later e = later e

pub first_next : FirstWantsAreNext
first_next w origin frames want wants are = by_offers (offers_at w origin) refl are
  where
    by_offers : (offers : List Offer) → offers_at w origin ≡ offers → AreOffersOf frames (want ∷ wants) offers → IsNext w origin frames want
    by_offers [] e all = absurd all
    by_offers (o ∷ os) e all = record { offer = o; first = found_first (is_offer_of origin) w.offers o os e; is = all.0 }

pub none_left : NoWantIsLeft
none_left w origin frames are = by_offers (offers_at w origin) refl are
  where
    by_offers : (offers : List Offer) → offers_at w origin ≡ offers → AreOffersOf frames [] offers → first_offer w origin ≡ None
    by_offers [] e all = found_none (is_offer_of origin) w.offers e
    by_offers (o ∷ os) e all = absurd all

-- ---- what is wanted at first

pub sends_start : SendsStart
sends_start pool h e from frames port table legal follows asks is =
    let w = world_of pool h in
    let at : offers_started w e.ask e.reply ≡ offers_of_send w port frames =
    ap (λ (ask : Ask). offers_started w ask e.reply) asks ∙ ap (λ (found : Option Port). option_map_or (λ (p : Port). offers_of_send w p frames) found []) is.here in
    subst (AreOffersOf frames (wants_monitored (transmit_monitor w port.id) frames (wants_at w from frames port table))) (sym (offers_start pool h e follows ∙ at)) (sent_offers pool h from frames port table legal is)

reads_by : (w : World) (at : PortId) (back : List ℕ) (ask : Ask) (reply : Reply) (port : Port) → ReadsAt at back ask → open_port w.ports at.0 ≡ Some port → offers_started w ask reply ≡ offers_of_sync w port
reads_by w at back _ reply port syncs e = ap (λ (found : Option Port). option_map_or (offers_of_sync w) found []) e
reads_by w at back _ reply port gets e = ap (λ (found : Option Port). option_map_or (offers_of_sync w) found []) e

pub reads_start : ReadsStart
reads_start pool h e at back port legal follows reads here =
    let w = world_of pool h in
    subst (AreOffersOf (delivered_frames port) (wants_monitored (receive_monitor w port.id) (delivered_frames port) []))
    (sym (offers_start pool h e follows ∙ reads_by w at back e.ask e.reply port reads here)) (given_offers pool h port legal)

pub puts_start : PutsStart
puts_start pool h e at offered items to port legal follows asks replies here =
    let w = world_of pool h in
    let started : offers_started w e.ask e.reply ≡ offers_of_put w port (frames_of_items items) =
    ap (λ (ask : Ask). offers_started w ask e.reply) asks
    ∙ (ap (λ (reply : Reply). offers_started w (PutKept at offered) reply) replies ∙ ap (λ (found : Option Port). option_map_or (λ (p : Port). offers_of_put w p (frames_of_items items)) found []) here) in
    subst (AreOffersOf (frames_of_items items) (wants_monitored (transmit_monitor w port.id) (frames_of_items items) []))
    (sym (offers_start pool h e follows ∙ started)) (put_offers pool h port (frames_of_items items) legal)
