-- Scripts that are light, and others that are just not, worked.
use Rattle.std.specs.Prelude.{ℕ, ◌≡◌, ◌≤◌, ◌⊎◌, List, [], ◌∷◌, map, replicate, codes, refl, false}
use Rattle.std.proofs.Common.{suc, T, inl, inr, arith}
use Rattle.std.proofs.Math.Facts.{leb_yes}
use Rattle.std.proofs.Math.Dec.{leb}
use Rattle.nm_types.specs.Names.{is_pipe_name, is_switch_port_name, switch_of}
use Rattle.nm_types.specs.declared.id.Mac.{Mac}
use Rattle.nm_types.specs.declared.id.Side.TheVariants.{Rx}
use Rattle.vale_script.specs.declared.script.Act.{Act}
use Rattle.vale_script.specs.declared.script.Act.TheVariants as acts
use Rattle.vale_script.specs.declared.script.Unit.{Unit as Part}
use Rattle.vale_script.specs.declared.script.Unit.TheVariants.{Single}
use Rattle.vale_script.specs.Script.{Program}
use Rattle.vale_captures.specs.Inputs.{InputFile}
use Rattle.vale_cost.specs.FewFrames.{IsLight, most_light_frames, most_narrow_frames, most_narrow_ports, frames_put_in, opens_of, bytes_by}

abbrev name : List ℕ
name = codes "vale0:a"

abbrev nobody : Mac
nobody = record { 0 = replicate 6 0 }

abbrev puts : ℕ → ℕ → Act
puts count len = acts.Put name count nobody nobody len 17

abbrev opens : Act
opens = acts.Open name 4 4 0

abbrev unit : Act → Part
unit act = Single (record { at = 1; user = 1; act = act })

abbrev doing : List Act → Program
doing list = record { pool = 64; users = codes "a" ∷ []; files = codes "f" ∷ []; units = map unit list }

at_most : (m n : ℕ) → T (leb m n) → m ≤ n
at_most m n holds = leb_yes holds

above : (m n : ℕ) → T (leb (suc n) m) → m ≤ n → ⊥
above m n holds few = omega (arith, leb_yes holds, few)

abbrev FewIn : Program → Type 0
FewIn program =
    (frames_put_in program [] ≤ most_light_frames)
    ⊎ ((frames_put_in program [] ≤ most_narrow_frames) × ((switch : List ℕ) → opens_of switch program ≤ most_narrow_ports))

-- 20,000 frames are few, however many ports the script opens
few_frames : IsLight (doing (puts 20000 60 ∷ replicate 17 opens)) []
few_frames = record { few = inl (at_most 20000 20000 tt); short = at_most 1200000 409600000 tt; plain = (tt, (tt, (tt, (tt, (tt, (tt, (tt, (tt, (tt, (tt, (tt, (tt, (tt, (tt, (tt, (tt, (tt, (tt, tt)))))))))))))))))) }

-- one more is not, at 17 ports of one switch
many_frames : IsLight (doing (puts 20001 60 ∷ replicate 17 opens)) [] → ⊥
unfolding is_switch_port_name switch_of
many_frames light = by light.few
  where
    by : FewIn (doing (puts 20001 60 ∷ replicate 17 opens)) → ⊥
    by (inl few) = above 20001 20000 tt few
    by (inr narrow) = above 17 16 tt (narrow.1 (codes "0"))

-- 200,000 frames are few where few ports are opened, and of 2,048 bytes each they are short
narrow_frames : IsLight (doing (puts 200000 2048 ∷ [])) []
narrow_frames = record { few = inr (at_most 200000 200000 tt, λ switch. at_most 0 16 tt); short = at_most 409600000 409600000 tt; plain = (tt, tt) }

too_many_frames : IsLight (doing (puts 200001 60 ∷ [])) [] → ⊥
too_many_frames light = by light.few
  where
    by : FewIn (doing (puts 200001 60 ∷ [])) → ⊥
    by (inl few) = above 200001 20000 tt few
    by (inr narrow) = above 200001 200000 tt narrow.0

abbrev one_byte : InputFile
one_byte = record { file = codes "f"; frames = (7 ∷ []) ∷ [] }

-- one byte more is too much
too_long_frames : IsLight (doing (puts 199999 2048 ∷ puts 1 2047 ∷ acts.Play name (codes "f") 1 ∷ acts.Play name (codes "f") 1 ∷ [])) (one_byte ∷ []) → ⊥
unfolding is_pipe_name
too_long_frames light = above 409600001 409600000 tt light.short

forwards_frames : IsLight (doing (acts.Fwd name name 1 ∷ [])) [] → ⊥
forwards_frames light = light.plain.0

moves_positions : IsLight (doing (acts.Tx name ∷ acts.Move name Rx 0 0 ∷ [])) [] → ⊥
moves_positions light = light.plain.1.0

-- the bytes of a `hex` line are not counted, nor are those of a record that is too long to be put at a pipe
bytes_counted : map (bytes_by (record { file = codes "f"; frames = (7 ∷ []) ∷ replicate 2049 0 ∷ [] } ∷ [])) (puts 3 60 ∷ acts.Hex name (record { bytes = 1 ∷ []; no_learn = false }) ∷ acts.Play name (codes "f") 1 ∷ acts.Play (codes "pipe0{") (codes "f") 1 ∷ acts.Play name (codes "g") 1 ∷ opens ∷ []) ≡ 180 ∷ 0 ∷ 2050 ∷ 1 ∷ 0 ∷ 0 ∷ []
unfolding is_pipe_name
bytes_counted = refl
