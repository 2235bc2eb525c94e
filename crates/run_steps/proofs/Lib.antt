pub mod Initially
