use Rattle.std.proofs.Common.{◌≡◌, ℕ, ◌≤◌, List, length, None, refl, arith}
use Rattle.std.proofs.lemmas.Bool.Decides.{nat_tests}
use Rattle.pcap_io.specs.Capture.{Reader, BeginsWithHeader}
use Rattle.pcap_io.specs.Faults.{header_fault}

-- a header with no fault is good
pub good_header : (number : Reader) (bytes : List ℕ) → 24 ≤ length bytes → header_fault number bytes ≡ None → BeginsWithHeader number bytes
good_header number bytes there none = record {
  there = there;
  major = grind (arith, nat_tests);
  minor = grind (arith, nat_tests);
  link = grind (arith, nat_tests);
}

-- a good header has no fault
pub no_header_fault : (number : Reader) (bytes : List ℕ) → BeginsWithHeader number bytes → header_fault number bytes ≡ None
no_header_fault number bytes good = rw (good.major, good.minor, good.link) refl

pub ruleset headers = (good_header, no_header_fault)
