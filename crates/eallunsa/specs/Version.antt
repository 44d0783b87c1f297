-- The version of the calls and of their records.
-- Assumes nothing.
use Rattle.eallunsa.specs.declared.Version.{Version}

abbrev pub released : Version
released = record { major = 0; minor = 6; patch = 0 }
