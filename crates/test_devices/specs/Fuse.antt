-- What is seen of a fuse.
use Rattle.std.specs.Prelude.{ℕ}
use Rattle.std.specs.declared.io.ErrorKind.{ErrorKind}
use Rattle.std.specs.declared.io.ErrorKind.TheVariants.{Interrupted, Other}
use Rattle.test_devices.specs.declared.devices.Fuse.{Fuse}
use Rattle.test_devices.specs.declared.devices.Break.{Break}
use Rattle.test_devices.specs.declared.devices.Break.TheVariants.{Fail, Interrupt, Nothing}

-- the device within
abbrev pub inner_of : {T : Type 0} → Fuse T → T
inner_of fuse = fuse.inner

-- how many more calls are passed on
abbrev pub calls_left : {T : Type 0} → Fuse T → ℕ
calls_left fuse = fuse.left

-- how every later call answers
abbrev pub break_of : {T : Type 0} → Fuse T → Break
break_of fuse = fuse.how

-- the kind of the error that breaks a call
abbrev pub kind_of : Break → ErrorKind
kind_of Fail = Other
kind_of Interrupt = Interrupted
kind_of Nothing = Other
