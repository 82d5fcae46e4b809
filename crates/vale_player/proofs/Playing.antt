-- The tasks of a line that puts frames, one frame after another.
use Rattle.std.proofs.Common.{ℕ, zero, suc, ◌≡◌, ◌≤◌, ◌<◌, ◌+◌, ◌-◌, Bool, true, false, cond, List, [], ◌∷◌, ◌++◌, length, map, drop, get_or, replicate, Some, None, IfSome, refl, sym, ◌∙◌, ap, subst, arith, le_refl}
use Rattle.std.specs.Prelude.{filter, ◌==◌}
use Rattle.std.proofs.lemmas.Bool.{le-leb, lt-leb, eq-eqb, ne_eqb}
use Rattle.std.proofs.lemmas.List.{at_drop_more, at_drop_all}
use Rattle.nm_types.specs.Limits.{buffer_bytes, most_frame_bytes}
use Rattle.nm_types.specs.Names.{is_pipe_name}
use Rattle.pcap_io.specs.declared.record.Record.{Record}
use Rattle.vale_replay.specs.Tasks.{Task, PutFrame, SendFrames, played_before_sync, fits_to_play, most_to_play, lines_left}
use Rattle.vale_captures.specs.Inputs.{captured}
use Rattle.nm_types.specs.declared.fault.StepFault.{StepFault}
use Rattle.nm_user.specs.Sessions.{IsThere}
use Rattle.vale_player.specs.Players.{PlayerState, DoesLine, DoesOrEnds, Ends, Stops, StopsAt}
use Rattle.vale_player.specs.Syncing.{Leads, playing, PlaysOn}
use Rattle.vale_player.proofs.Doing.{HasNoEnd, does-line}
use Rattle.vale_player.proofs.Leading.{leads-self, leads-as, leads-does, leads-ends, leads-stops}

-- ---- one frame many times

same-none : (name bytes : List ℕ) (count : ℕ) → HasNoEnd (replicate count (PutFrame name bytes))
same-none name bytes zero rest = refl
same-none name bytes (suc n) rest = same-none name bytes n rest

pub same-next : (task : Task) (left : ℕ) → 0 < left → replicate left task ≡ task ∷ replicate (left - 1) task
same-next task left more =
    let next : left ≡ suc (left - 1) = omega (arith, more) in
    ap (λ (n : ℕ). replicate n task) next

-- while copies are left, the line goes on with the next one
module _ (p q : PlayerState) (name bytes : List ℕ) (count left : ℕ) (some : 0 < left) (leads : Leads p q (replicate count (PutFrame name bytes)) (replicate left (PutFrame name bytes))) where
  abbrev task : Task
  task = PutFrame name bytes

  abbrev copies : List Task
  copies = replicate count task

  abbrev others : List Task
  others = replicate (left - 1) task

  pub leads-next : Leads p q copies (task ∷ others)
  leads-next = leads-as p q copies (replicate left task) (task ∷ others) (same-next task left some) leads

  pub copies-end : (r : PlayerState) → Ends q r (task ∷ []) → DoesLine p r copies
  copies-end r ends = leads-ends p q r copies task others leads-next (same-none name bytes (left - 1)) ends

  pub copies-stop : (r : PlayerState) (fault : StepFault) → IsThere None q.session → StopsAt q r task fault → Stops p r copies fault
  copies-stop r fault here at = leads-stops p q r copies task others leads-next fault here at

-- ---- frames one after another

module _ (name : List ℕ) (batch : ℕ) where
  abbrev played-from : ℕ → List (List ℕ) → List Task
  played-from left frames = played_before_sync name batch left frames

  last-none : (b : Bool) → HasNoEnd (cond b [] (SendFrames name ∷ []))
  last-none true rest = refl
  last-none false rest = refl

  -- what comes behind a frame that is put
  abbrev pub behind_put : ℕ → List (List ℕ) → List Task
  behind_put left frames = cond (left == 1) (SendFrames name ∷ played-from batch frames) (played-from (left - 1) frames)

  either-none : (b : Bool) (one other : List Task) → HasNoEnd one → HasNoEnd other → HasNoEnd (cond b (SendFrames name ∷ one) other)
  either-none true one other first second rest = first rest
  either-none false one other first second rest = second rest

  put-out : (bytes : List ℕ) (b : Bool) (one other : List Task) → cond b (PutFrame name bytes ∷ one) (PutFrame name bytes ∷ other) ≡ PutFrame name bytes ∷ cond b one other
  put-out bytes true one other = refl
  put-out bytes false one other = refl

  pub played-none : (left : ℕ) (frames : List (List ℕ)) → HasNoEnd (played-from left frames)
  played-none left [] rest = last-none (left == batch) rest
  played-none left (bytes ∷ frames) rest =
      ap (λ (tasks : List Task). lines_left (tasks ++ rest)) (put-out bytes (left == 1) (SendFrames name ∷ played-from batch frames) (played-from (left - 1) frames))
      ∙ either-none (left == 1) (played-from batch frames) (played-from (left - 1) frames) (played-none batch frames) (played-none (left - 1) frames) rest

  pub behind-none : (left : ℕ) (frames : List (List ℕ)) → HasNoEnd (behind_put left frames)
  behind-none left frames = either-none (left == 1) (played-from batch frames) (played-from (left - 1) frames) (played-none batch frames) (played-none (left - 1) frames)

  -- a record that is short enough is put, and a longer one is passed over
  pub plays-short : (left : ℕ) (bytes : List ℕ) (frames : List (List ℕ)) → length bytes ≤ most_to_play name
      → playing name batch left (bytes ∷ frames) ≡ PutFrame name bytes ∷ behind_put left (filter (fits_to_play name) frames)
  plays-short left bytes frames short =
      ap (λ (b : Bool). played-from left (cond b (bytes ∷ filter (fits_to_play name) frames) (filter (fits_to_play name) frames))) (le-leb (length bytes) (most_to_play name) short)
      ∙ put-out bytes (left == 1) (SendFrames name ∷ playing name batch batch frames) (playing name batch (left - 1) frames)

  pub plays-long : (left : ℕ) (bytes : List ℕ) (frames : List (List ℕ)) → most_to_play name < length bytes → playing name batch left (bytes ∷ frames) ≡ playing name batch left frames
  plays-long left bytes frames long =
      ap (λ (b : Bool). played-from left (cond b (bytes ∷ filter (fits_to_play name) frames) (filter (fits_to_play name) frames))) (lt-leb (length bytes) (most_to_play name) long)

  -- behind the last one before a sync that sync comes
  pub behind-last : (left : ℕ) (frames : List (List ℕ)) → left ≡ 1 → behind_put left (filter (fits_to_play name) frames) ≡ SendFrames name ∷ playing name batch batch frames
  behind-last left frames last =
      ap (λ (b : Bool). cond b (SendFrames name ∷ playing name batch batch frames) (playing name batch (left - 1) frames)) (eq-eqb left 1 last)

  pub behind-more : (left : ℕ) (frames : List (List ℕ)) → (left ≡ 1 → ⊥) → behind_put left (filter (fits_to_play name) frames) ≡ playing name batch (left - 1) frames
  behind-more left frames more =
      ap (λ (b : Bool). cond b (SendFrames name ∷ playing name batch batch frames) (playing name batch (left - 1) frames)) (ne_eqb left 1 more)

  -- behind all of them too, if it does not stand there yet
  pub plays-last : (left : ℕ) → (left ≡ batch → ⊥) → playing name batch left [] ≡ SendFrames name ∷ []
  plays-last left more = ap (λ (b : Bool). cond b [] (SendFrames name ∷ [])) (ne_eqb left batch more)

  pub plays-all : (left : ℕ) → left ≡ batch → playing name batch left [] ≡ []
  plays-all left all = ap (λ (b : Bool). cond b [] (SendFrames name ∷ [])) (eq-eqb left batch all)

-- what a line may play at the most is found once, before its first frame
pub short-enough : (name : List ℕ) (most len : ℕ) → most ≡ most_to_play name → len ≤ most → len ≤ most_to_play name
short-enough name most len is short = subst (λ (n : ℕ). len ≤ n) is short

pub too-long : (name : List ℕ) (most len : ℕ) → most ≡ most_to_play name → most < len → most_to_play name < len
too-long name most len is long = subst (λ (n : ℕ). n < len) is long

pub most-fits : (name : List ℕ) → most_to_play name ≤ most_frame_bytes
most-fits name = by (is_pipe_name name)
  where
    by : (b : Bool) → cond b buffer_bytes most_frame_bytes ≤ most_frame_bytes
    by true = omega arith
    by false = le_refl most_frame_bytes

-- ---- a record that is short enough is put

module _ (p : PlayerState) (name : List ℕ) (batch left : ℕ) (bytes : List ℕ) (frames : List (List ℕ)) (short : length bytes ≤ most_to_play name) (q : PlayerState) where
  abbrev whole : List Task
  whole = playing name batch left (bytes ∷ frames)

  abbrev more : List Task
  more = behind_put name batch left (filter (fits_to_play name) frames)

  puts-first : Leads p p whole (PutFrame name bytes ∷ more)
  puts-first = leads-as p p whole whole (PutFrame name bytes ∷ more) (plays-short name batch left bytes frames short) (leads-self p whole)

  pub put-stops-play : (fault : StepFault) → IsThere None p.session → StopsAt p q (PutFrame name bytes) fault → Stops p q whole fault
  put-stops-play fault here at = leads-stops p p q whole (PutFrame name bytes) more puts-first fault here at

  module _ (goes : Bool) (does : DoesOrEnds p q (PutFrame name bytes ∷ []) goes) where
    pub put-ends : goes ≡ false → DoesLine p q whole
    put-ends off = leads-ends p p q whole (PutFrame name bytes) more puts-first (behind-none name batch left (filter (fits_to_play name) frames)) (subst (DoesOrEnds p q (PutFrame name bytes ∷ [])) off does)

    put-done : goes ≡ true → Leads p q whole more
    put-done on = leads-does p p q whole (PutFrame name bytes) more puts-first (subst (DoesOrEnds p q (PutFrame name bytes ∷ [])) on does)

    pub put-goes : goes ≡ true → (left ≡ 1 → ⊥) → Leads p q whole (playing name batch (left - 1) frames)
    put-goes on other = leads-as p q whole more (playing name batch (left - 1) frames) (behind-more name batch left frames other) (put-done on)

    pub put-sends : goes ≡ true → left ≡ 1 → Leads p q whole (SendFrames name ∷ playing name batch batch frames)
    put-sends on last = leads-as p q whole more (SendFrames name ∷ playing name batch batch frames) (behind-last name batch left frames last) (put-done on)

-- ---- behind a sync a whole batch comes, or nothing more

pub sent-plays : (p q r : PlayerState) (name : List ℕ) (batch : ℕ) (whole : List Task) (frames : List (List ℕ)) → Leads p q whole (SendFrames name ∷ playing name batch batch frames)
    → (goes : Bool) → DoesOrEnds q r (SendFrames name ∷ []) goes → PlaysOn p r whole name batch frames (cond goes (Some batch) None)
sent-plays p q r name batch whole frames leads true does = leads-does p q r whole (SendFrames name) (playing name batch batch frames) leads does
sent-plays p q r name batch whole frames leads false ends =
    leads-ends p q r whole (SendFrames name) (playing name batch batch frames) leads (played-none name batch batch (filter (fits_to_play name) frames)) ends

pub batch-some : (goes : Bool) (batch : ℕ) → 1 ≤ batch → IfSome (cond goes (Some batch) None) (λ n. 1 ≤ n)
batch-some true batch some = some
batch-some false batch some = tt

-- ---- the records of a capture

-- the one at a place comes before those behind it
pub next-record : (records : List Record) (at : ℕ) (item : Record) (bytes : List ℕ) → at < length records → item ≡ get_or records at item → bytes ≡ item.bytes
    → map captured (drop at records) ≡ bytes ∷ map captured (drop (at + 1) records)
next-record records at item bytes within is same =
    let rest : List (List ℕ) = map captured (drop (at + 1) records) in
    at_drop_more (map captured) records at item within
    ∙ (ap (λ (r : Record). captured r ∷ rest) (sym is) ∙ ap (λ (bs : List ℕ). bs ∷ rest) (sym same))

pub no-record : (records : List Record) (at : ℕ) → length records ≤ at → map captured (drop at records) ≡ []
no-record records at end = at_drop_all (map captured) records at end

module _ (p q : PlayerState) (name : List ℕ) (batch left : ℕ) (records : List Record) (at : ℕ) (whole : List Task) (leads : Leads p q whole (playing name batch left (map captured (drop at records)))) where
  pub leads-record : (item : Record) (bytes : List ℕ) → at < length records → item ≡ get_or records at item → bytes ≡ item.bytes
      → Leads p q whole (playing name batch left (bytes ∷ map captured (drop (at + 1) records)))
  leads-record item bytes within is same =
      leads-as p q whole (playing name batch left (map captured (drop at records))) (playing name batch left (bytes ∷ map captured (drop (at + 1) records)))
      (ap (playing name batch left) (next-record records at item bytes within is same)) leads

  pub leads-all : length records ≤ at → left ≡ batch → DoesLine p q whole
  leads-all end all =
      does-line p q whole (leads-as p q whole (playing name batch left (map captured (drop at records))) [] (ap (playing name batch left) (no-record records at end) ∙ plays-all name batch left all) leads)

  pub leads-last : length records ≤ at → (left ≡ batch → ⊥) → Leads p q whole (SendFrames name ∷ [])
  leads-last end more =
      leads-as p q whole (playing name batch left (map captured (drop at records))) (SendFrames name ∷ []) (ap (playing name batch left) (no-record records at end) ∙ plays-last name batch left more) leads
