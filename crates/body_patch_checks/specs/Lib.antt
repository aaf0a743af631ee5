-- The checks 21 to 24: their conditions by name, what patches have once they have passed, and which fails first.
pub mod PatchTests
pub mod Patched
pub mod PatchFirst
