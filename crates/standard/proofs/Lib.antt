pub mod Errno
