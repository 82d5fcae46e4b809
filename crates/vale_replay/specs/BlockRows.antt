-- A worked block of two users, as theorems that hold by computation: the second one reads between the
-- first one's send and its grant, and so gets nothing. Each user's turns are told by its own numbers.
use Rattle.std.specs.Prelude.{ℕ, false, ◌+◌, ◌-◌, ◌++◌, List, [], ◌∷◌, take, slice_get, codes, Option, Some, None, refl}
use Rattle.nm_types.specs.OwnPorts.{empty_own}
use Rattle.nm_types.specs.Names.{is_name, is_switch_port_name, is_pipe_name, is_monitor_name, switch_of, peer_name}
use Rattle.vale_script.specs.declared.script.Act.{Act}
use Rattle.vale_script.specs.declared.script.Act.TheVariants as acts
use Rattle.vale_entry.specs.declared.entry.Ask.TheVariants.{Send, Grant, Sync}
use Rattle.vale_entry.specs.declared.entry.Entry.{Entry}
use Rattle.vale_entry.specs.declared.entry.Reply.TheVariants.{Made, Offered, Shared, Gave}
use Rattle.vale_entry.specs.Arrivals.{arrivals_of}
use Rattle.vale_entry.specs.OwnCalls.{own_after}
use Rattle.vale_entry.specs.RowWords.{entry, port, session, completes, dest, frame_f}
use Rattle.vale_own.specs.Rows.{sent}
use Rattle.vale_replay.specs.Machine.{Machine, answered, resting}
use Rattle.vale_replay.specs.Replay.{TakesTurns, NeedsNoCall, share_of, standing_before, starting}

abbrev block_history : List Entry
block_history =
    sent
    ++ entry 2 (Sync (port 4) []) (Gave 0 [])
    ∷ entry 1 (Grant 5 (port 4)) (Shared 1 0 0)
    ∷ entry 1 (completes 7) Made
    ∷ []

-- a user behind its entry of this number
abbrev gone_by : ℕ → Machine → Option Entry → Machine
gone_by number user None = user
gone_by number user (Some e) = resting (answered number e (arrivals_of (standing_before 64 block_history number) e.ask e.reply) user)

abbrev gone : Machine → ℕ → Machine
gone user number = gone_by number user (slice_get block_history (number - 1))

-- a user with its port, before the block
abbrev owning : ℕ → Option Entry → Machine
owning number None = record { number = number; session = Some (session number); own = empty_own 64; saves = []; tasks = [] }
owning number (Some e) = record {
  number = number;
  session = Some (session number);
  own = own_after (number + 2) e (arrivals_of (standing_before 64 block_history (number + 2)) e.ask e.reply) (empty_own 64);
  saves = [];
  tasks = [];
}

abbrev in_block : ℕ → List Act → Machine
in_block number lines = starting (share_of (λ file. []) number lines) (owning number (slice_get block_history (number + 1)))

abbrev sender : Machine
sender = in_block 1 (acts.Hex (codes "vale0:a") frame_f ∷ acts.Tx (codes "vale0:a") ∷ [])

abbrev reader : Machine
reader = in_block 2 (acts.Rx (codes "vale0:b") false ∷ [])

sender_turns : TakesTurns 64 block_history sender (5 ∷ 7 ∷ 8 ∷ []) (gone (gone (gone sender 5) 7) 8)
unfolding is_name is_switch_port_name is_pipe_name is_monitor_name switch_of peer_name
sender_turns = (
  gone sender 5,
  (
    record {
      ask = Send (port 3) (frame_f ∷ []);
      asked = refl;
      entry = entry 1 (Send (port 3) (frame_f ∷ [])) (Offered 0 0 (dest 4 1 ∷ []));
      made = refl;
      there = refl;
      caller = refl;
      goes_on = refl;
    },
    (
      gone (gone sender 5) 7,
      (
        record {
          ask = Grant 5 (port 4);
          asked = refl;
          entry = entry 1 (Grant 5 (port 4)) (Shared 1 0 0);
          made = refl;
          there = refl;
          caller = refl;
          goes_on = refl;
        },
        (
          gone (gone (gone sender 5) 7) 8,
          (
            record {
              ask = completes 7;
              asked = refl;
              entry = entry 1 (completes 7) Made;
              made = refl;
              there = refl;
              caller = refl;
              goes_on = refl;
            },
            refl,
          ),
        ),
      ),
    ),
  ),
)

sender_ends : NeedsNoCall 64 (take 8 block_history) (gone (gone (gone sender 5) 7) 8)
unfolding is_name is_switch_port_name is_pipe_name is_monitor_name switch_of peer_name
sender_ends = refl

reader_turns : TakesTurns 64 block_history reader (6 ∷ []) (gone reader 6)
unfolding is_name is_switch_port_name is_pipe_name is_monitor_name switch_of peer_name
reader_turns = (
  gone reader 6,
  (
    record {
      ask = Sync (port 4) [];
      asked = refl;
      entry = entry 2 (Sync (port 4) []) (Gave 0 []);
      made = refl;
      there = refl;
      caller = refl;
      goes_on = refl;
    },
    refl,
  ),
)

-- by what stands after its own last entry
reader_ends : NeedsNoCall 64 (take 6 block_history) (gone reader 6)
unfolding is_name is_switch_port_name is_pipe_name is_monitor_name switch_of peer_name
reader_ends = refl
